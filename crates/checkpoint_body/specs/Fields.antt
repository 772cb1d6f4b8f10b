-- The parts of a body: how they are spelt, and what bytes read as.
use Rattle.std.specs.Prelude.{ℕ, ℤ, ◌<◌, ◌^◌, ◌==◌, List, [], ◌∷◌, ◌++◌, flat_map, FitsSigned}
use Rattle.std.specs.Int.{w128}
use Rattle.std.specs.List.{AllByRecursion}
use Rattle.fixed_num.specs.declared.units.Record.{Record}
use Rattle.tier_settings.specs.declared.settings.Settings.{Settings}
use Rattle.tier_settings.specs.declared.tier.Tier.{Tier}
use Rattle.tier_settings.specs.Limits.{HasWidths}
use Rattle.tier_settings.specs.Settings.{settings_of}
use Rattle.field_codec.specs.declared.fault.FieldFault.TheVariants.{Range}
use Rattle.field_codec.specs.Lists.{◌>>◌, read_list, IsShortListOf}
use Rattle.field_codec.specs.Reading.{ReadOf, read_as, read_passing, read_u8, read_u32, read_u64, read_i128}
use Rattle.field_codec.specs.Spelling.{u8_bytes, u32_bytes, u64_bytes, i128_bytes, list_bytes}
use Rattle.checkpoint_body.specs.declared.body.Extent.{Extent}
use Rattle.checkpoint_body.specs.declared.body.OpenRecord.{OpenRecord}
use Rattle.checkpoint_body.specs.declared.of_tiers.OfTiers.{OfTiers}
use Rattle.checkpoint_body.specs.declared.page.RecordPage.{RecordPage}
use Rattle.checkpoint_body.specs.declared.page.SlotPage.{SlotPage}

-- ---- settings

unfoldable pub read_quota : List ℕ → ReadOf (ℕ × ℕ)
read_quota bytes = read_u32 bytes >> read_u32

unfoldable pub quota_bytes : Tier → List ℕ
quota_bytes t = u32_bytes t.items ++ u32_bytes t.extents

pub record IsQuota (t : Tier) : Type 0 where
  pub items : t.items < 2 ^ 32
  pub extents : t.extents < 2 ^ 32

-- the version of a body, which is 1
unfoldable pub read_version : List ℕ → ReadOf ℕ
read_version bytes = read_passing (λ version. version == 1) Range (read_u8 bytes)

abbrev pub settings_from : (((ℕ × ℕ) × (ℕ × ℕ)) × (ℕ × ℕ)) × (ℕ × ℕ) → Settings
settings_from ((((_, id), first), second), third) = settings_of id (first ∷ second ∷ third ∷ [])

unfoldable pub read_settings : List ℕ → ReadOf Settings
read_settings bytes = read_as settings_from (read_version bytes >> read_u64 >> read_quota >> read_quota >> read_quota)

unfoldable pub settings_bytes : Settings → List ℕ
settings_bytes s = u8_bytes 1 ++ u64_bytes s.id ++ flat_map quota_bytes s.tiers

pub record FitsSettings (s : Settings) : Type 0 where
  pub id : s.id < 2 ^ 64
  pub widths : HasWidths s.tiers
  pub quotas : AllByRecursion IsQuota s.tiers

-- ---- one of each tier

abbrev pub of_tiers : {X : Type 0} → (X × X) × X → OfTiers X
of_tiers ((first, second), third) = record { points = first; minutes = second; hours = third }

abbrev pub read_each : {X : Type 0} → (List ℕ → ReadOf X) → List ℕ → ReadOf (OfTiers X)
read_each read bytes = read_as of_tiers (read bytes >> read >> read)

abbrev pub each_bytes : {X : Type 0} → (X → List ℕ) → OfTiers X → List ℕ
each_bytes spelling t = spelling t.points ++ spelling t.minutes ++ spelling t.hours

pub record IsEach {X : Type 0} (IsOne : X → Type 0) (t : OfTiers X) : Type 0 where
  pub points : IsOne t.points
  pub minutes : IsOne t.minutes
  pub hours : IsOne t.hours

-- ---- records

abbrev pub record_of : (((ℤ × ℤ) × ℤ) × ℕ) × ℕ → Record
record_of ((((min, max), sum), count), anomalies) =
    record { min = min; max = max; sum = sum; count = count; anomalies = anomalies }

unfoldable pub read_record : List ℕ → ReadOf Record
read_record bytes = read_as record_of (read_i128 bytes >> read_i128 >> read_i128 >> read_u32 >> read_u32)

-- minimum, maximum and sum, and the two counts: 56 bytes
unfoldable pub record_bytes : Record → List ℕ
record_bytes r = i128_bytes r.min ++ i128_bytes r.max ++ i128_bytes r.sum ++ u32_bytes r.count ++ u32_bytes r.anomalies

pub record FitsRecord (r : Record) : Type 0 where
  pub min : FitsSigned w128 r.min
  pub max : FitsSigned w128 r.max
  pub sum : FitsSigned w128 r.sum
  pub count : r.count < 2 ^ 32
  pub anomalies : r.anomalies < 2 ^ 32

-- ---- words

abbrev pub FitsWord : ℕ → Type 0
FitsWord word = word < 2 ^ 32

-- ---- extents

abbrev pub extent_of : (((ℕ × ℕ) × ℕ) × ℕ) × ℕ → Extent
extent_of ((((slot, serial), sealed_at), size), beats) =
    record { slot = slot; serial = serial; sealed_at = sealed_at; size = size; beats = beats }

unfoldable pub read_extent : List ℕ → ReadOf Extent
read_extent bytes = read_as extent_of (read_u32 bytes >> read_u64 >> read_u32 >> read_u64 >> read_u64)

unfoldable pub extent_bytes : Extent → List ℕ
extent_bytes e = u32_bytes e.slot ++ u64_bytes e.serial ++ u32_bytes e.sealed_at ++ u64_bytes e.size ++ u64_bytes e.beats

pub record FitsExtent (e : Extent) : Type 0 where
  pub slot : e.slot < 2 ^ 32
  pub serial : e.serial < 2 ^ 64
  pub sealed_at : e.sealed_at < 2 ^ 32
  pub size : e.size < 2 ^ 64
  pub beats : e.beats < 2 ^ 64

-- ---- open records

abbrev pub open_record_of : (ℕ × ℕ) × Record → OpenRecord
open_record_of ((series, start), value) = record { series = series; start = start; value = value }

unfoldable pub read_open_record : List ℕ → ReadOf OpenRecord
read_open_record bytes = read_as open_record_of (read_u32 bytes >> read_u32 >> read_record)

unfoldable pub open_record_bytes : OpenRecord → List ℕ
open_record_bytes o = u32_bytes o.series ++ u32_bytes o.start ++ record_bytes o.value

pub record FitsOpenRecord (o : OpenRecord) : Type 0 where
  pub series : o.series < 2 ^ 32
  pub start : o.start < 2 ^ 32
  pub value : FitsRecord o.value

-- ---- pages

abbrev pub slot_page_from : ((ℕ × ℕ) × ℕ) × List ℕ → SlotPage
slot_page_from (((series, first), step), words) =
    record { series = series; first = first; step = step; words = words }

unfoldable pub read_slot_page : List ℕ → ReadOf SlotPage
read_slot_page bytes = read_as slot_page_from (read_u32 bytes >> read_u32 >> read_u32 >> read_list read_u32)

unfoldable pub slot_page_bytes : SlotPage → List ℕ
slot_page_bytes p = u32_bytes p.series ++ u32_bytes p.first ++ u32_bytes p.step ++ list_bytes u32_bytes p.words

pub record FitsSlotPage (p : SlotPage) : Type 0 where
  pub series : p.series < 2 ^ 32
  pub first : p.first < 2 ^ 32
  pub step : p.step < 2 ^ 32
  pub words : IsShortListOf FitsWord p.words

abbrev pub record_page_from : ((ℕ × ℕ) × ℕ) × List Record → RecordPage
record_page_from (((series, first), step), records) =
    record { series = series; first = first; step = step; records = records }

unfoldable pub read_record_page : List ℕ → ReadOf RecordPage
read_record_page bytes = read_as record_page_from (read_u32 bytes >> read_u32 >> read_u32 >> read_list read_record)

unfoldable pub record_page_bytes : RecordPage → List ℕ
record_page_bytes p = u32_bytes p.series ++ u32_bytes p.first ++ u32_bytes p.step ++ list_bytes record_bytes p.records

pub record FitsRecordPage (p : RecordPage) : Type 0 where
  pub series : p.series < 2 ^ 32
  pub first : p.first < 2 ^ 32
  pub step : p.step < 2 ^ 32
  pub records : IsShortListOf FitsRecord p.records
