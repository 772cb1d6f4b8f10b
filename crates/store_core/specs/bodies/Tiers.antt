-- Which tiers a body has, with the pages of the extents that it names.
use Rattle.std.specs.Prelude.{◌≡◌, ℕ, ◌*◌, ◌/◌, true, All, List, [], ◌∷◌, length, map}
use Rattle.fixed_num.specs.declared.units.Record.{Record}
use Rattle.beat_tiers.specs.declared.item.Stepped.{Stepped}
use Rattle.beat_tiers.specs.declared.parts.KeptItems.{KeptItems}
use Rattle.beat_tiers.specs.State.{RecordTierState, TiersState}
use Rattle.checkpoint_body.specs.declared.body.Body.{Body}
use Rattle.checkpoint_body.specs.declared.body.OpenRecord.{OpenRecord}
use Rattle.checkpoint_body.specs.declared.body.PointTier.{PointTier}
use Rattle.checkpoint_body.specs.declared.body.RecordTier.{RecordTier}
use Rattle.checkpoint_body.specs.declared.page.RecordPage.{RecordPage}
use Rattle.checkpoint_body.specs.declared.page.SlotPage.{SlotPage}
use Rattle.checkpoint_body.specs.Canonical.{is_record_page, is_slot_page}
use Rattle.store_core.specs.disk.Contents.{KeptPages}
use Rattle.tier_settings.specs.Settings.{first_tier, other_tiers}
use Rattle.store_core.specs.pages.Items.{HaveItems, HaveRecords}
use Rattle.store_core.specs.bodies.Segments.{first_number, AreRecordSegments, AreSlotSegments}
use Rattle.beat_tiers.specs.Sound.{AreSound}

-- the tier of points has what the body says of it
pub record IsPointTier (body : PointTier) (kept : List (List SlotPage)) (points : KeptItems Stepped) : Type 0 where
  pub floor : body.floor ≡ points.floor
  pub before : body.before ≡ points.before
  pub sealed : body.sealed ≡ points.count
  pub formed : All (All (λ (page : SlotPage). is_slot_page page ≡ true)) kept
  pub segments : AreSlotSegments (first_number points.count (length points.sealed)) points.before body.extents kept points.sealed
  pub unsealed : HaveItems body.pages points.unsealed

-- the record of the bucket of the last moment
abbrev pub open_record_of : ℕ → ℕ → ℕ × Record → OpenRecord
open_record_of last width one = record { series = one.0; start = width * (last / width); value = one.1 }

-- a tier of records has what the body says of it
pub record IsRecordTier (last : ℕ) (body : RecordTier) (kept : List (List RecordPage)) (state : RecordTierState) : Type 0 where
  pub floor : body.floor ≡ state.segments.floor
  pub sealed : body.sealed ≡ state.segments.count
  pub open_records : body.open_records ≡ map (open_record_of last state.tier.width) state.current
  pub formed : All (All (λ (page : RecordPage). is_record_page state.tier.width page ≡ true)) kept
  pub segments : AreRecordSegments (first_number state.segments.count (length state.segments.sealed)) body.extents kept state.segments.sealed
  pub unsealed : HaveRecords body.pages state.segments.unsealed

-- the tiers of records, of which there are two
abbrev pub AreRecordTiers : Body → KeptPages → List RecordTierState → Type 0
AreRecordTiers body kept [] = ⊥
AreRecordTiers body kept (minutes ∷ []) = ⊥
AreRecordTiers body kept (minutes ∷ hours ∷ []) =
    IsRecordTier body.last body.minutes kept.minutes minutes × IsRecordTier body.last body.hours kept.hours hours
AreRecordTiers body kept (minutes ∷ hours ∷ other ∷ others) = ⊥

-- the tiers are sound, have the body's settings, and what the body says of each
pub record AreTiersOfBody (body : Body) (kept : KeptPages) (tiers : TiersState) : Type 0 where
  pub last : tiers.last ≡ body.last
  pub first : tiers.first ≡ first_tier body.settings
  pub others : map (λ (one : RecordTierState). one.tier) tiers.records ≡ other_tiers body.settings
  pub sound : AreSound tiers
  pub points : IsPointTier body.points kept.points tiers.points
  pub records : AreRecordTiers body kept tiers.records
