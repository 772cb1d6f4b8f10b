-- Bodies: the one spelling of each, which of them have one, and what bytes read as.
use Rattle.std.specs.Prelude.{◌≡◌, ◌≢◌, ℕ, ◌<◌, ◌^◌, Bool, true, ◌&&◌, ◌==◌, if◌then◌else◌, List, ◌++◌, length, Ok, Err, Option, Some, None}
use Rattle.tier_settings.specs.declared.settings.Settings.{Settings}
use Rattle.tier_settings.specs.Limits.{are_tiers, InLimits}
use Rattle.tier_settings.specs.Settings.{tier_with}
use Rattle.field_codec.specs.declared.fault.FieldFault.{FieldFault}
use Rattle.field_codec.specs.declared.fault.FieldFault.TheVariants as fields
use Rattle.checkpoint_body.specs.declared.fault.BodyFault.{BodyFault}
use Rattle.checkpoint_body.specs.declared.fault.BodyFault.TheVariants as faults
use Rattle.field_codec.specs.Lists.{◌>>◌, read_list, IsShortListOf}
use Rattle.field_codec.specs.Reading.{ReadOf, read_as, read_u32, read_u64, read_bytes}
use Rattle.field_codec.specs.Spelling.{u32_bytes, u64_bytes, sized_bytes, list_bytes}
use Rattle.checkpoint_body.specs.declared.body.Body.{Body}
use Rattle.checkpoint_body.specs.declared.body.Extent.{Extent}
use Rattle.checkpoint_body.specs.declared.body.OpenRecord.{OpenRecord}
use Rattle.checkpoint_body.specs.declared.of_tiers.OfTiers.{OfTiers}
use Rattle.checkpoint_body.specs.declared.page.RecordPage.{RecordPage}
use Rattle.checkpoint_body.specs.declared.page.SlotPage.{SlotPage}
use Rattle.checkpoint_body.specs.Canonical.{is_point_tier, is_record_tier}
use Rattle.checkpoint_body.specs.Fields.{each_bytes, extent_bytes, open_record_bytes, read_each, read_extent, read_open_record, read_record_page, read_settings, read_slot_page, record_page_bytes, settings_bytes, slot_page_bytes, FitsExtent, FitsOpenRecord, FitsRecordPage, FitsSettings, FitsSlotPage, IsEach}

-- ---- what a body has of each tier

abbrev pub floors_of : Body → OfTiers ℕ
floors_of b = record { points = b.points.floor; minutes = b.minutes.floor; hours = b.hours.floor }

abbrev pub sealed_of : Body → OfTiers ℕ
sealed_of b = record { points = b.points.sealed; minutes = b.minutes.sealed; hours = b.hours.sealed }

abbrev pub extents_of : Body → OfTiers (List Extent)
extents_of b = record { points = b.points.extents; minutes = b.minutes.extents; hours = b.hours.extents }

-- ---- the spelling

unfoldable pub body_bytes : Body → List ℕ
body_bytes b =
    settings_bytes b.settings ++ u64_bytes b.count ++ u32_bytes b.last
    ++ each_bytes u32_bytes (floors_of b) ++ u64_bytes b.points.before ++ each_bytes u64_bytes (sealed_of b)
    ++ each_bytes (list_bytes extent_bytes) (extents_of b)
    ++ list_bytes open_record_bytes b.minutes.open_records ++ list_bytes open_record_bytes b.hours.open_records
    ++ list_bytes slot_page_bytes b.points.pages
    ++ list_bytes record_page_bytes b.minutes.pages ++ list_bytes record_page_bytes b.hours.pages
    ++ sized_bytes b.side

-- each number fits its field, and each list its count
pub record FitsBody (b : Body) : Type 0 where
  pub settings : FitsSettings b.settings
  pub count : b.count < 2 ^ 64
  pub last : b.last < 2 ^ 32
  pub floors : IsEach (λ floor. floor < 2 ^ 32) (floors_of b)
  pub before : b.points.before < 2 ^ 64
  pub sealed : IsEach (λ sealed. sealed < 2 ^ 64) (sealed_of b)
  pub extents : IsEach (IsShortListOf FitsExtent) (extents_of b)
  pub open_minutes : IsShortListOf FitsOpenRecord b.minutes.open_records
  pub open_hours : IsShortListOf FitsOpenRecord b.hours.open_records
  pub points : IsShortListOf FitsSlotPage b.points.pages
  pub minutes : IsShortListOf FitsRecordPage b.minutes.pages
  pub hours : IsShortListOf FitsRecordPage b.hours.pages
  pub side : length b.side < 2 ^ 32

-- the settings keep their limits, and each tier is in the form in which it is written
unfoldable pub is_canonical : Body → Bool
is_canonical b =
    are_tiers b.settings && is_point_tier (tier_with b.settings 0) b.points
    && is_record_tier (tier_with b.settings 1) b.minutes && is_record_tier (tier_with b.settings 2) b.hours

-- the bodies that have a spelling
pub record HasSpelling (b : Body) : Type 0 where
  pub fits : FitsBody b
  pub settings : InLimits b.settings
  pub points : is_point_tier (tier_with b.settings 0) b.points ≡ true
  pub minutes : is_record_tier (tier_with b.settings 1) b.minutes ≡ true
  pub hours : is_record_tier (tier_with b.settings 2) b.hours ≡ true

-- no body with a spelling has these bytes
abbrev pub IsNoSpelling : List ℕ → Type 0
IsNoSpelling bytes = (b : Body) → HasSpelling b → bytes ≢ body_bytes b

-- ---- the reading

abbrev pub body_from : (((((((((((Settings × ℕ) × ℕ) × OfTiers ℕ) × ℕ) × OfTiers ℕ) × OfTiers (List Extent)) × List OpenRecord) × List OpenRecord) × List SlotPage) × List RecordPage) × List RecordPage) × List ℕ → Body
body_from ((((((((((((settings, count), last), floors), before), sealed), extents), open_minutes), open_hours), points), minutes), hours), side) = record {
  settings = settings;
  count = count;
  last = last;
  points = record {
    floor = floors.points;
    before = before;
    sealed = sealed.points;
    extents = extents.points;
    pages = points;
  };
  minutes = record {
    floor = floors.minutes;
    sealed = sealed.minutes;
    extents = extents.minutes;
    open_records = open_minutes;
    pages = minutes;
  };
  hours = record {
    floor = floors.hours;
    sealed = sealed.hours;
    extents = extents.hours;
    open_records = open_hours;
    pages = hours;
  };
  side = side;
}

unfoldable pub read_fields : List ℕ → ReadOf Body
read_fields bytes =
    read_as body_from (read_settings bytes >> read_u64 >> read_u32 >> read_each read_u32 >> read_u64 >> read_each read_u64 >> read_each (read_list read_extent) >> read_list read_open_record >> read_list read_open_record >> read_list read_slot_page >> read_list read_record_page >> read_list read_record_page >> read_bytes)

-- the body, where nothing follows it and it is in the form in which it is written
abbrev pub whole_body : ReadOf Body → Option Body
whole_body (Ok read) = if (length read.1 == 0) && is_canonical read.0 then Some read.0 else None
whole_body (Err fault) = None

unfoldable pub read_body : List ℕ → Option Body
read_body bytes = whole_body (read_fields bytes)

-- a field that is refused leaves no body
abbrev pub body_fault : FieldFault → BodyFault
body_fault fields.Short = faults.BadBody
body_fault fields.Range = faults.BadBody
body_fault fields.NotText = faults.BadBody
body_fault fields.Memory = faults.Memory
