-- A body has the segments of one tier at most, and one list of tiers.
use Rattle.std.proofs.Common.{◌≡◌, ℕ, List, [], ◌∷◌, length, map, arith, sym, ap, refl, ◌∙◌, subst, Option}
use Rattle.std.specs.List.{AllByRecursion}
use Rattle.fixed_num.specs.declared.units.Record.{Record}
use Rattle.beat_tiers.specs.declared.item.Item.{Item}
use Rattle.beat_tiers.specs.declared.item.Stepped.{Stepped}
use Rattle.beat_tiers.specs.declared.parts.KeptItems.{KeptItems}
use Rattle.beat_tiers.specs.declared.parts.Segment.{Segment}
use Rattle.beat_tiers.specs.Segments.{items_of}
use Rattle.beat_tiers.specs.State.{RecordTierState}
use Rattle.beat_tiers.specs.Tiers.{AreOrdered}
use Rattle.checkpoint_body.specs.declared.body.Extent.{Extent}
use Rattle.checkpoint_body.specs.declared.body.PointTier.{PointTier}
use Rattle.checkpoint_body.specs.declared.body.RecordTier.{RecordTier}
use Rattle.checkpoint_body.specs.declared.page.RecordPage.{RecordPage}
use Rattle.checkpoint_body.specs.declared.page.SlotPage.{SlotPage}
use Rattle.checkpoint_body.specs.Records.{records_of}
use Rattle.checkpoint_body.specs.Slots.{points_of}
use Rattle.store_core.specs.pages.Items.{item_of_bucket_record, item_of_point}
use Rattle.store_core.proofs.PageProofs.WritableLemmas.{same_order}
use Rattle.tier_settings.specs.declared.tier.Tier.{Tier}
use Rattle.store_core.specs.bodies.Reading.{IsInOrder}
use Rattle.store_core.specs.bodies.Segments.{beats_up_to, first_number, next_number, AreRecordSegments, AreSlotSegments}
use Rattle.store_core.specs.bodies.Tiers.{open_record_of, IsPointTier, IsRecordTier}
use Rattle.store_core.proofs.BodyProofs.TierLemmas.{kept-same, open-one, sealed-order, unsealed-order}

segment-same : {T : Type 0} (one other : Segment T) → one.sealed_at ≡ other.sealed_at → one.items ≡ other.items → one ≡ other
segment-same {T} one other at items =
    ap (λ (n : ℕ). record one { sealed_at = n }) at ∙ ap (λ (list : List (Item T)). record { sealed_at = other.sealed_at; items = list }) items

-- ---- points

slots-one : (serial : Option ℕ) (beats : ℕ) (extents : List Extent) (kept : List (List SlotPage)) (some others : List (Segment Stepped)) → AllByRecursion IsInOrder some → AllByRecursion IsInOrder others
    → AreSlotSegments serial beats extents kept some → AreSlotSegments serial beats extents kept others → some ≡ others
slots-one serial beats [] [] [] [] order order_too are are_too = refl
slots-one serial beats [] [] (one ∷ some) others order order_too are are_too = absurd are
slots-one serial beats [] [] [] (other ∷ others) order order_too are are_too = absurd are_too
slots-one serial beats [] (pages ∷ kept) some others order order_too are are_too = absurd are
slots-one serial beats (extent ∷ extents) [] some others order order_too are are_too = absurd are
slots-one serial beats (extent ∷ extents) (pages ∷ kept) [] others order order_too are are_too = absurd are
slots-one serial beats (extent ∷ extents) (pages ∷ kept) (one ∷ some) [] order order_too are are_too = absurd are_too
slots-one serial beats (extent ∷ extents) (pages ∷ kept) (one ∷ some) (other ∷ others) order order_too are are_too =
    let items = same_order (map item_of_point (points_of pages)) one.items other.items order.0 order_too.0 are.1 are_too.1 in
    let same = segment-same one other (sym are.0.sealed_at ∙ are_too.0.sealed_at) items in
    let on = subst (λ (n : ℕ). AreSlotSegments (next_number serial) n extents kept others) (ap (beats_up_to beats) (sym same)) are_too.2 in
    ap (λ (segment : Segment Stepped). segment ∷ some) same
    ∙ ap (λ (rest : List (Segment Stepped)). other ∷ rest) (slots-one (next_number serial) (beats_up_to beats one) extents kept some others order.1 order_too.1 are.2 on)

pub slots-count : (serial : Option ℕ) (beats : ℕ) (extents : List Extent) (kept : List (List SlotPage)) (segments : List (Segment Stepped)) → AreSlotSegments serial beats extents kept segments
    → length segments ≡ length extents
slots-count serial beats [] [] [] are = refl
slots-count serial beats [] [] (segment ∷ segments) are = absurd are
slots-count serial beats [] (pages ∷ kept) segments are = absurd are
slots-count serial beats (extent ∷ extents) [] segments are = absurd are
slots-count serial beats (extent ∷ extents) (pages ∷ kept) [] are = absurd are
slots-count serial beats (extent ∷ extents) (pages ∷ kept) (segment ∷ segments) are =
    let rest = slots-count (next_number serial) (beats_up_to beats segment) extents kept segments are.2 in omega (arith, rest)

pub point-tier-one : (body : PointTier) (kept : List (List SlotPage)) (one other : KeptItems Stepped) → AreOrdered (items_of one) → AreOrdered (items_of other)
    → IsPointTier body kept one → IsPointTier body kept other → one ≡ other
point-tier-one body kept one other order order_too is is_too =
    let count = slots-count (first_number one.count (length one.sealed)) one.before body.extents kept one.sealed is.segments in
    let count_too = slots-count (first_number other.count (length other.sealed)) other.before body.extents kept other.sealed is_too.segments in
    let before : other.before ≡ one.before = sym is_too.before ∙ is.before in
    let serial : first_number other.count (length other.sealed) ≡ first_number one.count (length one.sealed) =
    ap (λ (n : ℕ). first_number n (length other.sealed)) (sym is_too.sealed ∙ is.sealed) ∙ ap (first_number one.count) (count_too ∙ sym count) in
    let there =
    subst (λ (n : ℕ). AreSlotSegments (first_number one.count (length one.sealed)) n body.extents kept other.sealed) before
    (subst (λ (n : Option ℕ). AreSlotSegments n other.before body.extents kept other.sealed) serial is_too.segments) in
    kept-same one other (sym is.floor ∙ is_too.floor) (sym before) (sym is.sealed ∙ is_too.sealed)
    (slots-one (first_number one.count (length one.sealed)) one.before body.extents kept one.sealed other.sealed (sealed-order one order) (sealed-order other order_too) is.segments there)
    (same_order (map item_of_point (points_of body.pages)) one.unsealed other.unsealed (unsealed-order one order) (unsealed-order other order_too) is.unsealed is_too.unsealed)

-- ---- records

records-one : (serial : Option ℕ) (extents : List Extent) (kept : List (List RecordPage)) (some others : List (Segment Record)) → AllByRecursion IsInOrder some → AllByRecursion IsInOrder others
    → AreRecordSegments serial extents kept some → AreRecordSegments serial extents kept others → some ≡ others
records-one serial [] [] [] [] order order_too are are_too = refl
records-one serial [] [] (one ∷ some) others order order_too are are_too = absurd are
records-one serial [] [] [] (other ∷ others) order order_too are are_too = absurd are_too
records-one serial [] (pages ∷ kept) some others order order_too are are_too = absurd are
records-one serial (extent ∷ extents) [] some others order order_too are are_too = absurd are
records-one serial (extent ∷ extents) (pages ∷ kept) [] others order order_too are are_too = absurd are
records-one serial (extent ∷ extents) (pages ∷ kept) (one ∷ some) [] order order_too are are_too = absurd are_too
records-one serial (extent ∷ extents) (pages ∷ kept) (one ∷ some) (other ∷ others) order order_too are are_too =
    let items = same_order (map item_of_bucket_record (records_of pages)) one.items other.items order.0 order_too.0 are.1 are_too.1 in
    let same = segment-same one other (sym are.0.sealed_at ∙ are_too.0.sealed_at) items in
    ap (λ (segment : Segment Record). segment ∷ some) same
    ∙ ap (λ (rest : List (Segment Record)). other ∷ rest) (records-one (next_number serial) extents kept some others order.1 order_too.1 are.2 are_too.2)

pub records-count : (serial : Option ℕ) (extents : List Extent) (kept : List (List RecordPage)) (segments : List (Segment Record)) → AreRecordSegments serial extents kept segments → length segments ≡ length extents
records-count serial [] [] [] are = refl
records-count serial [] [] (segment ∷ segments) are = absurd are
records-count serial [] (pages ∷ kept) segments are = absurd are
records-count serial (extent ∷ extents) [] segments are = absurd are
records-count serial (extent ∷ extents) (pages ∷ kept) [] are = absurd are
records-count serial (extent ∷ extents) (pages ∷ kept) (segment ∷ segments) are =
    let rest = records-count (next_number serial) extents kept segments are.2 in omega (arith, rest)

pub record-tier-one : (last : ℕ) (body : RecordTier) (kept : List (List RecordPage)) (one other : RecordTierState) → one.tier ≡ other.tier → one.segments.before ≡ 0 → other.segments.before ≡ 0
    → AreOrdered (items_of one.segments) → AreOrdered (items_of other.segments) → IsRecordTier last body kept one → IsRecordTier last body kept other → one ≡ other
record-tier-one last body kept one other tier before before_too order order_too is is_too =
    let count = records-count (first_number one.segments.count (length one.segments.sealed)) body.extents kept one.segments.sealed is.segments in
    let count_too = records-count (first_number other.segments.count (length other.segments.sealed)) body.extents kept other.segments.sealed is_too.segments in
    let serial : first_number other.segments.count (length other.segments.sealed) ≡ first_number one.segments.count (length one.segments.sealed) =
    ap (λ (n : ℕ). first_number n (length other.segments.sealed)) (sym is_too.sealed ∙ is.sealed) ∙ ap (first_number one.segments.count) (count_too ∙ sym count) in
    let there = subst (λ (n : Option ℕ). AreRecordSegments n body.extents kept other.segments.sealed) serial is_too.segments in
    let segments : one.segments ≡ other.segments =
    kept-same one.segments other.segments (sym is.floor ∙ is_too.floor) (before ∙ sym before_too) (sym is.sealed ∙ is_too.sealed)
    (records-one (first_number one.segments.count (length one.segments.sealed)) body.extents kept one.segments.sealed other.segments.sealed
    (sealed-order one.segments order) (sealed-order other.segments order_too) is.segments there)
    (same_order (map item_of_bucket_record (records_of body.pages)) one.segments.unsealed other.segments.unsealed
    (unsealed-order one.segments order) (unsealed-order other.segments order_too) is.unsealed is_too.unsealed) in
    let current : one.current ≡ other.current =
    open-one last one.tier.width one.current other.current
    (sym is.open_records ∙ is_too.open_records ∙ ap (λ (t : Tier). map (open_record_of last t.width) other.current) (sym tier)) in
    ap (λ (t : Tier). record one { tier = t }) tier
    ∙ ap (λ (records : List (ℕ × Record)). record { tier = other.tier; current = records; segments = one.segments }) current
    ∙ ap (λ (items : KeptItems Record). record { tier = other.tier; current = other.current; segments = items }) segments
