-- A tier of the next body: it has the form of its settings, and is that of the tier it was made of.
use Rattle.std.proofs.Common.{◌≡◌, ℕ, ◌+◌, ◌*◌, ◌/◌, ◌-◌, ◌^◌, ◌<◌, ◌≤◌, ◌&&◌, true, nat_le, nat_lt, List, [], ◌∷◌, length, map, arith, sym, ap, refl, ◌∙◌, subst}
use Rattle.std.specs.List.{All, AllByRecursion, list_all}
use Rattle.std.proofs.lemmas.Bool.{and_from, and_parts, leb-true, lt-ltb, ltb-true}
use Rattle.std.proofs.Math.Nat.{mul-le-mul_left, mul_comm}
use Rattle.std.proofs.lemmas.List.{length-map}
use Rattle.std.proofs.lemmas.Option.{IfSome_then}
use Rattle.fixed_num.specs.declared.units.Record.{Record}
use Rattle.field_codec.specs.Lists.{IsShortListOf}
use Rattle.beat_tiers.specs.declared.item.Item.{Item}
use Rattle.beat_tiers.specs.declared.item.Stepped.{Stepped}
use Rattle.beat_tiers.specs.declared.parts.KeptItems.{KeptItems}
use Rattle.beat_tiers.specs.declared.parts.Segment.{Segment}
use Rattle.beat_tiers.specs.Parts.{are_open}
use Rattle.beat_tiers.specs.Searching.{items_in}
use Rattle.beat_tiers.specs.Segments.{items_of}
use Rattle.beat_tiers.specs.Sound.{IsPointItem, IsRecordOfSeries}
use Rattle.beat_tiers.specs.State.{RecordTierState}
use Rattle.beat_tiers.proofs.GivenLemmas.{AreBelow}
use Rattle.beat_tiers.proofs.Halves.{all_left}
use Rattle.checkpoint_body.specs.declared.body.OpenRecord.{OpenRecord}
use Rattle.checkpoint_body.specs.declared.body.PointTier.{PointTier}
use Rattle.checkpoint_body.specs.declared.body.RecordTier.{RecordTier}
use Rattle.checkpoint_body.specs.declared.page.RecordPage.{RecordPage}
use Rattle.checkpoint_body.specs.declared.page.SlotPage.{SlotPage}
use Rattle.checkpoint_body.specs.Canonical.{are_few, are_in_order, are_open as are_open_records, is_ascending, is_point_tier, is_record_page, is_record_tier, is_series, is_slot_page, point_count, record_count, record_span, slot_span}
use Rattle.checkpoint_body.specs.Fields.{FitsExtent, FitsOpenRecord}
use Rattle.store_core.specs.declared.disk.sealed.RecordExtent.{RecordExtent}
use Rattle.store_core.specs.declared.disk.sealed.SlotExtent.{SlotExtent}
use Rattle.store_core.specs.disk.Next.{written_records, written_slots, IsWritable}
use Rattle.tier_settings.specs.declared.tier.Tier.{Tier}
use Rattle.store_core.specs.pages.Items.{IsRecordItem}
use Rattle.store_core.specs.pages.Pages.{AreRecordPagesOf, AreSlotPagesOf}
use Rattle.store_core.proofs.PageProofs.WritableLemmas.{records_writable, slots_writable}
use Rattle.store_core.specs.bodies.Next.{beats_before, no_beats_before, pages_after, pages_of_records, pages_of_slots, sealed_after, IsNextPointTier, IsNextRecordTier}
use Rattle.store_core.specs.bodies.Reading.{no_beats_in, ArePointSegmentsIn, ArePointsOf, AreRecordSegmentsIn, AreRecordsOf, AreSegmentsIn}
use Rattle.store_core.specs.bodies.Segments.{beats_in, first_number}
use Rattle.store_core.specs.bodies.Tiers.{open_record_of, IsPointTier, IsRecordTier}
use Rattle.store_core.proofs.BodyProofs.ExtentLemmas.{all-written, next-counted, next-few, next-fit}
use Rattle.store_core.proofs.BodyProofs.GoingLemmas.{beats_after, last-beats}
use Rattle.store_core.proofs.BodyProofs.GoingTier.{found-each, found-short, next-are, IsGoing}
use Rattle.store_core.proofs.BodyProofs.TierLemmas.{points-are, points-back, points-formed, records-are, records-back, records-formed, AreFormedRecords}

-- ---- extents

pub point-extents : (tier : Tier) (kept : PointTier) → is_point_tier tier kept ≡ true → length kept.extents ≤ tier.extents
point-extents tier kept is =
    let most = and_parts (are_few tier kept.extents && list_all is_slot_page kept.pages && are_in_order (map slot_span kept.pages)) _ is in
    let order = and_parts (are_few tier kept.extents && list_all is_slot_page kept.pages) _ most.0 in
    leb-true (length kept.extents) tier.extents (and_parts (are_few tier kept.extents) _ order.0).0

pub record-extents : (tier : Tier) (kept : RecordTier) → is_record_tier tier kept ≡ true → length kept.extents ≤ tier.extents
record-extents tier kept is =
    let most = and_parts (are_few tier kept.extents && are_open_records kept.open_records && list_all (is_record_page tier.width) kept.pages && are_in_order (map record_span kept.pages)) _ is in
    let order = and_parts (are_few tier kept.extents && are_open_records kept.open_records && list_all (is_record_page tier.width) kept.pages) _ most.0 in
    let pages = and_parts (are_few tier kept.extents && are_open_records kept.open_records) _ order.0 in
    leb-true (length kept.extents) tier.extents (and_parts (are_few tier kept.extents) _ pages.0).0

-- ---- open records

module _ (last width : ℕ) where
  abbrev opened : List (ℕ × Record) → List OpenRecord
  opened current = map (open_record_of last width) current

  open-few : (least : ℕ) (current : List (ℕ × Record)) → are_open least current ≡ true → length current ≤ 65536 - least
  open-few least [] are = omega arith
  open-few least (one ∷ records) are =
      let parts = and_parts (nat_le least one.0 && nat_lt one.0 65536) _ are in
      let here = and_parts (nat_le least one.0) _ parts.0 in
      let low = leb-true least one.0 here.0 in
      let high = ltb-true one.0 65536 here.1 in
      let rest = open-few (one.0 + 1) records parts.1 in
      omega (arith, low, high, rest)

  open-series : (least : ℕ) (current : List (ℕ × Record)) → are_open least current ≡ true → list_all is_series (opened current) ≡ true
  open-series least [] are = refl
  open-series least (one ∷ records) are =
      let parts = and_parts (nat_le least one.0 && nat_lt one.0 65536) _ are in
      and_from _ _ (and_parts (nat_le least one.0) _ parts.0).1 (open-series (one.0 + 1) records parts.1)

  open-ascending : (least : ℕ) (current : List (ℕ × Record)) → are_open least current ≡ true → is_ascending (map (λ (one : OpenRecord). one.series) (opened current)) ≡ true
  open-ascending least [] are = refl
  open-ascending least (one ∷ []) are = refl
  open-ascending least (one ∷ next ∷ records) are =
      let parts = and_parts (nat_le least one.0 && nat_lt one.0 65536) _ are in
      let behind = and_parts (nat_le (one.0 + 1) next.0 && nat_lt next.0 65536) _ parts.1 in
      let above = leb-true (one.0 + 1) next.0 (and_parts (nat_le (one.0 + 1) next.0) _ behind.0).0 in
      and_from _ _ (lt-ltb one.0 next.0 (omega (arith, above))) (open-ascending (one.0 + 1) (next ∷ records) parts.1)

-- records of series in buckets before that of a moment begin in time
pub record-items : (width last : ℕ) (items : List (Item Record)) → last < 2 ^ 32 → 0 < width → AllByRecursion IsRecordOfSeries items → AreBelow (last / width) items → AllByRecursion (IsRecordItem width) items
record-items width last [] high some each below = tt
record-items width last (item ∷ items) high some each below = (
  record { series = each.0; begins = begins item.place (below.0) },
  record-items width last items high some each.1 below.1,
)
  where
    begins : (place : ℕ) → place < last / width → place * width < 2 ^ 32
    begins place low =
        let whole : width * (last / width) ≤ last = omega arith in
        let part : width * place ≤ width * (last / width) = mul-le-mul_left width (omega (arith, low)) in
        let turned : place * width ≡ width * place = mul_comm place width in
        omega (arith, whole, part, turned, high)

-- ---- points

module _ (tier : Tier) (moment : ℕ) (old : PointTier) (was now : KeptItems Stepped) (going : IsGoing IsPointItem beats_in tier moment old.extents was now)
    (next : PointTier) (new : List SlotExtent) (is : IsNextPointTier moment old now next new) where
  pub point-form : is_point_tier tier next ≡ true
  point-form =
      let few = going.few in
      let count = is.pages.count in
      and_from _ _
      (and_from _ _
      (and_from _ _
      (next-counted 0 written_slots pages_of_slots AreSlotPagesOf beats_in beats_before moment old.extents now next.extents new is.extents tier going.most) is.pages.form)
      is.pages.order)
      (lt-ltb (point_count next.pages) tier.items (omega (arith, few, count)))

  pub point-fit : AllByRecursion FitsExtent old.extents → IsShortListOf FitsExtent next.extents
  point-fit fit = record {
    count =
        let few = next-few 0 written_slots pages_of_slots AreSlotPagesOf beats_in beats_before moment old.extents now next.extents new is.extents in
        let most = going.most in let kept = going.kept in omega (arith, few, most, kept);
    each = next-fit 0 written_slots pages_of_slots AreSlotPagesOf beats_in beats_before moment old.extents now next.extents new is.extents fit;
  }

  pub point-writable : All (IsWritable 0 tier.items) (map written_slots new)
  point-writable =
      all-written 0 written_slots pages_of_slots AreSlotPagesOf beats_in beats_before moment old.extents now next.extents new is.extents (IsWritable 0 tier.items)
      (IfSome_then (sealed_after moment now.sealed) (found-short IsPointItem beats_in tier moment old.extents was now going)
      (λ segment short one pages low. slots_writable tier.items one.slot segment.items one.pages pages short (let named = going.named in let kept = going.kept in omega (arith, low, named, kept))))

  pub point-tier : (kept : List (List SlotPage)) → AllByRecursion IsPointItem (items_of was) → IsPointTier old kept was → IsPointTier next (pages_after old.extents next.extents kept (map pages_of_slots new)) now
  point-tier kept each before =
      let are : ArePointSegmentsIn (first_number was.count (length was.sealed)) was.before old.extents kept was.sealed =
      points-back (first_number was.count (length was.sealed)) was.before old.extents kept was.sealed before.formed (all_left IsPointItem (items_in was.sealed) was.unsealed each) before.segments in
      let all : ArePointSegmentsIn (first_number now.count (length now.sealed)) now.before next.extents (pages_after old.extents next.extents kept (map pages_of_slots new)) now.sealed =
      next-are IsPointItem beats_in tier moment old.extents was now going ArePointsOf 0 written_slots pages_of_slots AreSlotPagesOf beats_before next.extents new is.extents kept are
      (IfSome_then (sealed_after moment now.sealed) (found-each IsPointItem beats_in tier moment old.extents was now going)
      (λ segment each_of pages pages_are. record { form = pages_are.form; items = pages_are.items; each = each_of }))
      (λ numbers stay pages segments stay_are. refl) in
      record {
        floor = is.floor;
        before = is.before;
        sealed = is.sealed;
        formed = points-formed (first_number now.count (length now.sealed)) now.before next.extents (pages_after old.extents next.extents kept (map pages_of_slots new)) now.sealed all;
        segments = points-are (first_number now.count (length now.sealed)) now.before next.extents (pages_after old.extents next.extents kept (map pages_of_slots new)) now.sealed all;
        unsealed = is.pages.items;
      }

-- ---- records

none-counted : (segments : List (Segment Record)) → beats_after no_beats_in 0 segments ≡ 0
none-counted [] = refl
none-counted (segment ∷ segments) = none-counted segments

module _ (number moment last : ℕ) (above : 0 < number) (old : RecordTier) (was now : RecordTierState)
    (going : IsGoing (IsRecordItem now.tier.width) no_beats_in now.tier moment old.extents was.segments now.segments)
    (next : RecordTier) (new : List RecordExtent) (is : IsNextRecordTier number moment last old now next new) where
  pub record-form : are_open 0 now.current ≡ true → is_record_tier now.tier next ≡ true
  record-form is_open =
      let few = going.few in
      let count = is.pages.count in
      let opens : are_open_records next.open_records ≡ true =
      ap are_open_records is.open_records
      ∙ and_from _ _ (open-series last now.tier.width 0 now.current is_open) (open-ascending last now.tier.width 0 now.current is_open) in
      and_from _ _
      (and_from _ _
      (and_from _ _
      (and_from _ _
      (next-counted number written_records pages_of_records (AreRecordPagesOf number now.tier.width) no_beats_in no_beats_before moment old.extents now.segments next.extents new is.extents now.tier going.most)
      opens)
      is.pages.form)
      is.pages.order)
      (lt-ltb (record_count next.pages) now.tier.items (omega (arith, few, count)))

  pub record-fit : AllByRecursion FitsExtent old.extents → IsShortListOf FitsExtent next.extents
  record-fit fit = record {
    count =
        let few = next-few number written_records pages_of_records (AreRecordPagesOf number now.tier.width) no_beats_in no_beats_before moment old.extents now.segments next.extents new is.extents in
        let most = going.most in let kept = going.kept in omega (arith, few, most, kept);
    each = next-fit number written_records pages_of_records (AreRecordPagesOf number now.tier.width) no_beats_in no_beats_before moment old.extents now.segments next.extents new is.extents fit;
  }

  pub open-fit : are_open 0 now.current ≡ true → IsShortListOf FitsOpenRecord next.open_records
  open-fit is_open = record {
    count =
        let few = open-few last now.tier.width 0 now.current is_open in
        let same = ap (λ (list : List OpenRecord). length list) is.open_records ∙ length-map now.current (open_record_of last now.tier.width) in omega (arith, few, same);
    each = is.open_fit;
  }

  pub record-writable : All (IsWritable number now.tier.items) (map written_records new)
  record-writable =
      all-written number written_records pages_of_records (AreRecordPagesOf number now.tier.width) no_beats_in no_beats_before moment old.extents now.segments next.extents new is.extents
      (IsWritable number now.tier.items)
      (IfSome_then (sealed_after moment now.segments.sealed) (found-short (IsRecordItem now.tier.width) no_beats_in now.tier moment old.extents was.segments now.segments going)
      (λ segment short one pages low.
      records_writable number now.tier.width now.tier.items one.slot segment.items one.pages above pages short (let named = going.named in let kept = going.kept in omega (arith, low, named, kept))))

  module _ (same : now.tier ≡ was.tier) (none_was : was.segments.before ≡ 0) (none_now : now.segments.before ≡ 0) where
    pub record-tier : (body_last next_last : ℕ) → next_last ≡ last → (kept : List (List RecordPage)) → AllByRecursion IsRecordOfSeries (items_of was.segments) → IsRecordTier body_last old kept was
        → IsRecordTier next_last next (pages_after old.extents next.extents kept (map pages_of_records new)) now
    record-tier body_last next_last last_is kept each before =
        let width = now.tier.width in
        let formed : All (AreFormedRecords width) kept = subst (λ (tier : Tier). All (AreFormedRecords tier.width) kept) (sym same) before.formed in
        let there : AreRecordSegmentsIn width (first_number was.segments.count (length was.segments.sealed)) old.extents kept was.segments.sealed =
        records-back width (first_number was.segments.count (length was.segments.sealed)) old.extents kept was.segments.sealed formed
        (all_left IsRecordOfSeries (items_in was.segments.sealed) was.segments.unsealed each) before.segments in
        let are = subst (λ (b : ℕ). AreSegmentsIn (AreRecordsOf width) no_beats_in (first_number was.segments.count (length was.segments.sealed)) b old.extents kept was.segments.sealed) (sym none_was) there in
        let all =
        next-are (IsRecordItem width) no_beats_in now.tier moment old.extents was.segments now.segments going (AreRecordsOf width) number written_records pages_of_records (AreRecordPagesOf number width)
        no_beats_before next.extents new is.extents kept are
        (IfSome_then (sealed_after moment now.segments.sealed) (found-each (IsRecordItem width) no_beats_in now.tier moment old.extents was.segments now.segments going)
        (λ segment each_of pages pages_are. record { form = pages_are.form; items = pages_are.items; each = series-of width segment.items each_of }))
        (λ numbers stay pages segments stay_are.
        sym (last-beats (AreRecordsOf width) no_beats_in numbers now.segments.before stay pages segments stay_are
        ∙ ap (λ (b : ℕ). beats_after no_beats_in b segments) none_now ∙ none-counted segments)) in
        let whole : AreRecordSegmentsIn width (first_number now.segments.count (length now.segments.sealed)) next.extents (pages_after old.extents next.extents kept (map pages_of_records new)) now.segments.sealed =
        subst (λ (b : ℕ). AreSegmentsIn (AreRecordsOf width) no_beats_in (first_number now.segments.count (length now.segments.sealed)) b next.extents
        (pages_after old.extents next.extents kept (map pages_of_records new)) now.segments.sealed) none_now all in
        record {
          floor = is.floor;
          sealed = is.sealed;
          open_records = is.open_records ∙ ap (λ (n : ℕ). map (open_record_of n width) now.current) (sym last_is);
          formed = records-formed width (first_number now.segments.count (length now.segments.sealed)) next.extents (pages_after old.extents next.extents kept (map pages_of_records new)) now.segments.sealed whole;
          segments = records-are width (first_number now.segments.count (length now.segments.sealed)) next.extents (pages_after old.extents next.extents kept (map pages_of_records new)) now.segments.sealed whole;
          unsealed = is.pages.items;
        }
      where
        series-of : (width : ℕ) (items : List (Item Record)) → AllByRecursion (IsRecordItem width) items → AllByRecursion IsRecordOfSeries items
        series-of width [] each = tt
        series-of width (item ∷ items) each = (each.0.series, series-of width items each.1)
