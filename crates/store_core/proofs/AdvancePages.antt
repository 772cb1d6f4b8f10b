-- A body of tiers has pages of each extent that it names.
use Rattle.std.proofs.Common.{◌≡◌, ℕ, List, [], ◌∷◌, length, Option, arith, refl}
use Rattle.fixed_num.specs.declared.units.Record.{Record}
use Rattle.beat_tiers.specs.declared.item.Stepped.{Stepped}
use Rattle.beat_tiers.specs.declared.parts.Segment.{Segment}
use Rattle.beat_tiers.specs.State.{RecordTierState, TiersState}
use Rattle.checkpoint_body.specs.declared.body.Body.{Body}
use Rattle.checkpoint_body.specs.declared.body.Extent.{Extent}
use Rattle.checkpoint_body.specs.declared.page.RecordPage.{RecordPage}
use Rattle.checkpoint_body.specs.declared.page.SlotPage.{SlotPage}
use Rattle.store_core.specs.disk.Contents.{KeptPages}
use Rattle.store_core.specs.disk.Kept.{HasPagesOfEach}
use Rattle.store_core.specs.bodies.Segments.{beats_up_to, next_number, AreRecordSegments, AreSlotSegments}
use Rattle.store_core.specs.bodies.Tiers.{AreRecordTiers, AreTiersOfBody}

slot-pages : (number : Option ℕ) (beats : ℕ) (extents : List Extent) (kept : List (List SlotPage)) (segments : List (Segment Stepped)) → AreSlotSegments number beats extents kept segments
    → length kept ≡ length extents
slot-pages number beats [] [] [] are = refl
slot-pages number beats [] [] (segment ∷ segments) are = absurd are
slot-pages number beats [] (pages ∷ kept) segments are = absurd are
slot-pages number beats (extent ∷ extents) [] segments are = absurd are
slot-pages number beats (extent ∷ extents) (pages ∷ kept) [] are = absurd are
slot-pages number beats (extent ∷ extents) (pages ∷ kept) (segment ∷ segments) are =
    let rest = slot-pages (next_number number) (beats_up_to beats segment) extents kept segments are.2 in omega (arith, rest)

record-pages : (number : Option ℕ) (extents : List Extent) (kept : List (List RecordPage)) (segments : List (Segment Record)) → AreRecordSegments number extents kept segments
    → length kept ≡ length extents
record-pages number [] [] [] are = refl
record-pages number [] [] (segment ∷ segments) are = absurd are
record-pages number [] (pages ∷ kept) segments are = absurd are
record-pages number (extent ∷ extents) [] segments are = absurd are
record-pages number (extent ∷ extents) (pages ∷ kept) [] are = absurd are
record-pages number (extent ∷ extents) (pages ∷ kept) (segment ∷ segments) are =
    let rest = record-pages (next_number number) extents kept segments are.2 in omega (arith, rest)

tier-pages : (body : Body) (kept : KeptPages) (records : List RecordTierState) → AreRecordTiers body kept records
    → (length kept.minutes ≡ length body.minutes.extents) × (length kept.hours ≡ length body.hours.extents)
tier-pages body kept [] are = absurd are
tier-pages body kept (minutes ∷ []) are = absurd are
tier-pages body kept (minutes ∷ hours ∷ []) are =
    (record-pages _ body.minutes.extents kept.minutes minutes.segments.sealed are.0.segments, record-pages _ body.hours.extents kept.hours hours.segments.sealed are.1.segments)
tier-pages body kept (minutes ∷ hours ∷ other ∷ others) are = absurd are

pub pages-of-each : (body : Body) (kept : KeptPages) (tiers : TiersState) → AreTiersOfBody body kept tiers → HasPagesOfEach body kept
pages-of-each body kept tiers are =
    let records = tier-pages body kept tiers.records are.records in
    record {
      points = slot-pages _ tiers.points.before body.points.extents kept.points tiers.points.sealed are.points.segments;
      minutes = records.0;
      hours = records.1;
    }
