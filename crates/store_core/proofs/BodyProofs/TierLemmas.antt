-- What is read of a tier is what the body and the pages of its extents say of it.
use Rattle.std.proofs.Common.{◌≡◌, ℕ, ◌*◌, ◌/◌, true, List, [], ◌∷◌, length, map, Some, arith, sym, ap, refl, ◌∙◌, subst, Option}
use Rattle.std.specs.List.{All, AllByRecursion, list_all}
use Rattle.std.proofs.lemmas.List.Elements.{All-cons, All-head, All-map, All-nil, All-tail}
use Rattle.std.proofs.lemmas.List.Sums.{AllPass-from_list_all, list_all-from_AllPass}
use Rattle.std.proofs.lemmas.Option.{same_Some}
use Rattle.fixed_num.specs.declared.units.Record.{Record}
use Rattle.list_lemmas.proofs.Every.{all-append}
use Rattle.beat_tiers.specs.declared.item.Item.{Item}
use Rattle.beat_tiers.specs.declared.item.Stepped.{Stepped}
use Rattle.beat_tiers.specs.declared.parts.KeptItems.{KeptItems}
use Rattle.beat_tiers.specs.declared.parts.KeptRecords.{KeptRecords}
use Rattle.beat_tiers.specs.declared.parts.Segment.{Segment}
use Rattle.beat_tiers.specs.Searching.{items_in}
use Rattle.beat_tiers.specs.Segments.{items_of}
use Rattle.beat_tiers.specs.Tiers.{AreOrdered}
use Rattle.beat_tiers.proofs.Ordered.{ordered-left, ordered-right}
use Rattle.beat_tiers.proofs.Halves.{all_left}
use Rattle.beat_tiers.proofs.SoundTier.{all-right}
use Rattle.checkpoint_body.specs.declared.body.Extent.{Extent}
use Rattle.checkpoint_body.specs.declared.body.OpenRecord.{OpenRecord}
use Rattle.checkpoint_body.specs.declared.body.PointTier.{PointTier}
use Rattle.checkpoint_body.specs.declared.body.RecordTier.{RecordTier}
use Rattle.checkpoint_body.specs.declared.page.RecordPage.{RecordPage}
use Rattle.checkpoint_body.specs.declared.page.SlotPage.{SlotPage}
use Rattle.checkpoint_body.specs.Canonical.{is_record_page, is_slot_page}
use Rattle.tier_settings.specs.declared.tier.Tier.{Tier}
use Rattle.beat_tiers.specs.Sound.{IsPointItem, IsRecordOfSeries}
use Rattle.store_core.specs.bodies.Reading.{AreRecordSegmentsIn, ArePointSegmentsIn, ArePointsOf, AreRecordsOf, AreSegmentsIn, HasPoints, HasRecords, IsInOrder, no_beats_in}
use Rattle.store_core.specs.bodies.Segments.{beats_up_to, first_number, next_number, AreRecordSegments, AreSlotSegments}
use Rattle.store_core.specs.bodies.Tiers.{open_record_of}

-- ---- both kinds

module _ {T : Type 0} where
  order-each : (segments : List (Segment T)) → AreOrdered (items_in segments) → AllByRecursion IsInOrder segments
  order-each [] order = tt
  order-each (segment ∷ segments) order =
      (ordered-left segment.items (items_in segments) order, order-each segments (ordered-right segment.items (items_in segments) order))

  pub sealed-order : (kept : KeptItems T) → AreOrdered (items_of kept) → AllByRecursion IsInOrder kept.sealed
  sealed-order kept order = order-each kept.sealed (ordered-left (items_in kept.sealed) kept.unsealed order)

  pub unsealed-order : (kept : KeptItems T) → AreOrdered (items_of kept) → AreOrdered kept.unsealed
  unsealed-order kept order = ordered-right (items_in kept.sealed) kept.unsealed order

  pub kept-same : (one other : KeptItems T) → one.floor ≡ other.floor → one.before ≡ other.before → one.count ≡ other.count → one.sealed ≡ other.sealed → one.unsealed ≡ other.unsealed → one ≡ other
  kept-same one other floor before count sealed unsealed =
      ap (λ (x : ℕ). record one { floor = x }) floor
      ∙ ap (λ (x : ℕ). record { floor = other.floor; before = x; count = one.count; sealed = one.sealed; unsealed = one.unsealed }) before
      ∙ ap (λ (x : ℕ). record { floor = other.floor; before = other.before; count = x; sealed = one.sealed; unsealed = one.unsealed }) count
      ∙ ap (λ (x : List (Segment T)). record { floor = other.floor; before = other.before; count = other.count; sealed = x; unsealed = one.unsealed }) sealed
      ∙ ap (λ (x : List (Item T)). record { floor = other.floor; before = other.before; count = other.count; sealed = other.sealed; unsealed = x }) unsealed

read-count : {Page T : Type 0} (AreItemsOf : List Page → List (Item T) → Type 0) (beats_in : List (Item T) → ℕ) (serial : Option ℕ) (beats : ℕ) (extents : List Extent) (kept : List (List Page)) (segments : List (Segment T))
    → AreSegmentsIn AreItemsOf beats_in serial beats extents kept segments → length segments ≡ length extents
read-count AreItemsOf beats_in serial beats [] [] [] are = refl
read-count AreItemsOf beats_in serial beats [] [] (segment ∷ segments) are = absurd are
read-count AreItemsOf beats_in serial beats [] (pages ∷ kept) segments are = absurd are
read-count AreItemsOf beats_in serial beats (extent ∷ extents) [] segments are = absurd are
read-count AreItemsOf beats_in serial beats (extent ∷ extents) (pages ∷ kept) [] are = absurd are
read-count AreItemsOf beats_in serial beats (extent ∷ extents) (pages ∷ kept) (segment ∷ segments) are =
    let rest = read-count AreItemsOf beats_in (next_number serial) extent.beats extents kept segments are.1 in omega (arith, rest)

-- ---- points

abbrev pub AreFormed : List SlotPage → Type 0
AreFormed pages = All (λ (page : SlotPage). is_slot_page page ≡ true) pages

pub points-are : (serial : Option ℕ) (beats : ℕ) (extents : List Extent) (kept : List (List SlotPage)) (segments : List (Segment Stepped)) → ArePointSegmentsIn serial beats extents kept segments
    → AreSlotSegments serial beats extents kept segments
points-are serial beats [] [] [] are = tt
points-are serial beats [] [] (segment ∷ segments) are = absurd are
points-are serial beats [] (pages ∷ kept) segments are = absurd are
points-are serial beats (extent ∷ extents) [] segments are = absurd are
points-are serial beats (extent ∷ extents) (pages ∷ kept) [] are = absurd are
points-are serial beats (extent ∷ extents) (pages ∷ kept) (segment ∷ segments) are = (
  are.0.named,
  are.0.items.items,
  subst (λ (n : ℕ). AreSlotSegments (next_number serial) n extents kept segments) are.0.named.beats
      (points-are (next_number serial) extent.beats extents kept segments are.1),
)

pub points-formed : (serial : Option ℕ) (beats : ℕ) (extents : List Extent) (kept : List (List SlotPage)) (segments : List (Segment Stepped)) → ArePointSegmentsIn serial beats extents kept segments → All AreFormed kept
points-formed serial beats [] [] [] are = All-nil AreFormed
points-formed serial beats [] [] (segment ∷ segments) are = absurd are
points-formed serial beats [] (pages ∷ kept) segments are = absurd are
points-formed serial beats (extent ∷ extents) [] segments are = absurd are
points-formed serial beats (extent ∷ extents) (pages ∷ kept) [] are = absurd are
points-formed serial beats (extent ∷ extents) (pages ∷ kept) (segment ∷ segments) are =
    All-cons AreFormed pages kept (AllPass-from_list_all is_slot_page pages are.0.items.form) (points-formed (next_number serial) extent.beats extents kept segments are.1)

points-each : (serial : Option ℕ) (beats : ℕ) (extents : List Extent) (kept : List (List SlotPage)) (segments : List (Segment Stepped)) → ArePointSegmentsIn serial beats extents kept segments
    → AllByRecursion IsPointItem (items_in segments)
points-each serial beats [] [] [] are = tt
points-each serial beats [] [] (segment ∷ segments) are = absurd are
points-each serial beats [] (pages ∷ kept) segments are = absurd are
points-each serial beats (extent ∷ extents) [] segments are = absurd are
points-each serial beats (extent ∷ extents) (pages ∷ kept) [] are = absurd are
points-each serial beats (extent ∷ extents) (pages ∷ kept) (segment ∷ segments) are =
    all-append IsPointItem segment.items (items_in segments) are.0.items.each (points-each (next_number serial) extent.beats extents kept segments are.1)

pub points-back : (serial : Option ℕ) (beats : ℕ) (extents : List Extent) (kept : List (List SlotPage)) (segments : List (Segment Stepped)) → All AreFormed kept → AllByRecursion IsPointItem (items_in segments)
    → AreSlotSegments serial beats extents kept segments → ArePointSegmentsIn serial beats extents kept segments
points-back serial beats [] [] [] formed each are = tt
points-back serial beats [] [] (segment ∷ segments) formed each are = absurd are
points-back serial beats [] (pages ∷ kept) segments formed each are = absurd are
points-back serial beats (extent ∷ extents) [] segments formed each are = absurd are
points-back serial beats (extent ∷ extents) (pages ∷ kept) [] formed each are = absurd are
points-back serial beats (extent ∷ extents) (pages ∷ kept) (segment ∷ segments) formed each are = (
  record {
    named = are.0;
    items = record {
      form = list_all-from_AllPass is_slot_page pages (All-head AreFormed pages kept formed);
      items = are.1;
      each = all_left IsPointItem segment.items (items_in segments) each;
    };
  },
  subst (λ (n : ℕ). ArePointSegmentsIn (next_number serial) n extents kept segments) (sym are.0.beats)
      (points-back (next_number serial) (beats_up_to beats segment) extents kept segments (All-tail AreFormed pages kept formed)
      (all-right IsPointItem segment.items (items_in segments) each) are.2),
)

module _ (body : PointTier) (kept : List (List SlotPage)) (serial : Option ℕ) (first : serial ≡ first_number body.sealed (length body.extents)) where
  pub points-found : (sealed : List (Segment Stepped)) (unsealed : List (Item Stepped)) → ArePointSegmentsIn serial body.before body.extents kept sealed → ArePointsOf body.pages unsealed
      → HasPoints body kept (record { floor = body.floor; before = body.before; count = body.sealed; sealed = sealed; unsealed = unsealed })
  points-found sealed unsealed are rest = record {
    is = record {
      floor = refl;
      before = refl;
      sealed = refl;
      formed = points-formed serial body.before body.extents kept sealed are;
      segments = subst (λ (n : Option ℕ). AreSlotSegments n body.before body.extents kept sealed)
          (first ∙ ap (first_number body.sealed) (sym (read-count ArePointsOf _ serial body.before body.extents kept sealed are)))
          (points-are serial body.before body.extents kept sealed are);
      unsealed = rest.items;
    };
    each = all-append IsPointItem (items_in sealed) unsealed (points-each serial body.before body.extents kept sealed are) rest.each;
  }

  module _ (form : list_all is_slot_page body.pages ≡ true) (points : KeptItems Stepped) (has : HasPoints body kept points) where
    sealed-there : ArePointSegmentsIn (first_number points.count (length points.sealed)) points.before body.extents kept points.sealed
    sealed-there =
        points-back (first_number points.count (length points.sealed)) points.before body.extents kept points.sealed has.is.formed
        (all_left IsPointItem (items_in points.sealed) points.unsealed has.each) has.is.segments

    -- what is read of the extents are these segments
    pub points-sealed : ArePointSegmentsIn serial body.before body.extents kept points.sealed
    points-sealed =
        let count = read-count ArePointsOf _ (first_number points.count (length points.sealed)) points.before body.extents kept points.sealed sealed-there in
        let same : first_number points.count (length points.sealed) ≡ serial =
        ap (λ (n : ℕ). first_number n (length points.sealed)) (sym has.is.sealed) ∙ ap (first_number body.sealed) count ∙ sym first in
        subst (λ (n : Option ℕ). ArePointSegmentsIn n body.before body.extents kept points.sealed) same
        (subst (λ (n : ℕ). ArePointSegmentsIn (first_number points.count (length points.sealed)) n body.extents kept points.sealed) (sym has.is.before) sealed-there)

    pub points-unsealed : ArePointsOf body.pages points.unsealed
    points-unsealed = record { form = form; items = has.is.unsealed; each = all-right IsPointItem (items_in points.sealed) points.unsealed has.each }

    pub points-one : (sealed : List (Segment Stepped)) (unsealed : List (Item Stepped)) → Some sealed ≡ Some points.sealed → Some unsealed ≡ Some points.unsealed
        → Some (record { floor = body.floor; before = body.before; count = body.sealed; sealed = sealed; unsealed = unsealed }) ≡ Some points
    points-one sealed unsealed first_same then_same =
        ap (λ (kept : KeptItems Stepped). Some kept)
        (kept-same (record { floor = body.floor; before = body.before; count = body.sealed; sealed = sealed; unsealed = unsealed }) points has.is.floor has.is.before has.is.sealed
        (same_Some sealed points.sealed first_same) (same_Some unsealed points.unsealed then_same))

-- ---- open records

-- the record of the bucket of the last moment begins with that bucket
module _ (last width : ℕ) where
  pub open-starts : (records : List OpenRecord) (current : List (ℕ × Record)) → records ≡ map (open_record_of last width) current → All (λ (begun : OpenRecord). begun.start ≡ width * (last / width)) records
  open-starts records current are =
      subst (All (λ (begun : OpenRecord). begun.start ≡ width * (last / width))) (sym are)
      (All-map (λ (begun : OpenRecord). begun.start ≡ width * (last / width)) (open_record_of last width) current (λ k d lt. refl))

  pub open-one : (one other : List (ℕ × Record)) → map (open_record_of last width) one ≡ map (open_record_of last width) other → one ≡ other
  open-one [] [] same = refl
  open-one [] (x ∷ xs) same = absurd cc
  open-one (x ∷ xs) [] same = absurd cc
  open-one (x ∷ xs) (y ∷ ys) same =
      let here : open_record_of last width x ≡ open_record_of last width y = cc in
      let rest : map (open_record_of last width) xs ≡ map (open_record_of last width) ys = cc in
      ap (λ (n : ℕ). (n, x.1) ∷ xs) (ap (λ (begun : OpenRecord). begun.series) here)
      ∙ ap (λ (value : Record). (y.0, value) ∷ xs) (ap (λ (begun : OpenRecord). begun.value) here)
      ∙ ap (λ (zs : List (ℕ × Record)). y ∷ zs) (open-one xs ys rest)

-- ---- records

abbrev pub AreFormedRecords : ℕ → List RecordPage → Type 0
AreFormedRecords width pages = All (λ (page : RecordPage). is_record_page width page ≡ true) pages

module _ (width : ℕ) where
  -- of records no beats are counted
  pub records-on : (serial : Option ℕ) (extent : Extent) (extents : List Extent) (kept : List (List RecordPage)) (segments : List (Segment Record)) → extent.beats ≡ 0
      → AreSegmentsIn (AreRecordsOf width) no_beats_in serial extent.beats extents kept segments → AreRecordSegmentsIn width serial extents kept segments
  records-on serial extent extents kept segments none are = subst (λ (n : ℕ). AreSegmentsIn (AreRecordsOf width) no_beats_in serial n extents kept segments) none are

  pub records-are : (serial : Option ℕ) (extents : List Extent) (kept : List (List RecordPage)) (segments : List (Segment Record)) → AreRecordSegmentsIn width serial extents kept segments
      → AreRecordSegments serial extents kept segments
  records-are serial [] [] [] are = tt
  records-are serial [] [] (segment ∷ segments) are = absurd are
  records-are serial [] (pages ∷ kept) segments are = absurd are
  records-are serial (extent ∷ extents) [] segments are = absurd are
  records-are serial (extent ∷ extents) (pages ∷ kept) [] are = absurd are
  records-are serial (extent ∷ extents) (pages ∷ kept) (segment ∷ segments) are = (
    are.0.named,
    are.0.items.items,
    records-are (next_number serial) extents kept segments (records-on (next_number serial) extent extents kept segments are.0.named.beats are.1),
  )

  pub records-formed : (serial : Option ℕ) (extents : List Extent) (kept : List (List RecordPage)) (segments : List (Segment Record)) → AreRecordSegmentsIn width serial extents kept segments
      → All (AreFormedRecords width) kept
  records-formed serial [] [] [] are = All-nil (AreFormedRecords width)
  records-formed serial [] [] (segment ∷ segments) are = absurd are
  records-formed serial [] (pages ∷ kept) segments are = absurd are
  records-formed serial (extent ∷ extents) [] segments are = absurd are
  records-formed serial (extent ∷ extents) (pages ∷ kept) [] are = absurd are
  records-formed serial (extent ∷ extents) (pages ∷ kept) (segment ∷ segments) are =
      All-cons (AreFormedRecords width) pages kept (AllPass-from_list_all (is_record_page width) pages are.0.items.form)
      (records-formed (next_number serial) extents kept segments (records-on (next_number serial) extent extents kept segments are.0.named.beats are.1))

  records-each : (serial : Option ℕ) (extents : List Extent) (kept : List (List RecordPage)) (segments : List (Segment Record)) → AreRecordSegmentsIn width serial extents kept segments
      → AllByRecursion IsRecordOfSeries (items_in segments)
  records-each serial [] [] [] are = tt
  records-each serial [] [] (segment ∷ segments) are = absurd are
  records-each serial [] (pages ∷ kept) segments are = absurd are
  records-each serial (extent ∷ extents) [] segments are = absurd are
  records-each serial (extent ∷ extents) (pages ∷ kept) [] are = absurd are
  records-each serial (extent ∷ extents) (pages ∷ kept) (segment ∷ segments) are =
      all-append IsRecordOfSeries segment.items (items_in segments) are.0.items.each
      (records-each (next_number serial) extents kept segments (records-on (next_number serial) extent extents kept segments are.0.named.beats are.1))

  pub records-back : (serial : Option ℕ) (extents : List Extent) (kept : List (List RecordPage)) (segments : List (Segment Record)) → All (AreFormedRecords width) kept
      → AllByRecursion IsRecordOfSeries (items_in segments) → AreRecordSegments serial extents kept segments → AreRecordSegmentsIn width serial extents kept segments
  records-back serial [] [] [] formed each are = tt
  records-back serial [] [] (segment ∷ segments) formed each are = absurd are
  records-back serial [] (pages ∷ kept) segments formed each are = absurd are
  records-back serial (extent ∷ extents) [] segments formed each are = absurd are
  records-back serial (extent ∷ extents) (pages ∷ kept) [] formed each are = absurd are
  records-back serial (extent ∷ extents) (pages ∷ kept) (segment ∷ segments) formed each are = (
    record {
      named = are.0;
      items = record {
        form = list_all-from_AllPass (is_record_page width) pages (All-head (AreFormedRecords width) pages kept formed);
        items = are.1;
        each = all_left IsRecordOfSeries segment.items (items_in segments) each;
      };
    },
    subst (λ (n : ℕ). AreSegmentsIn (AreRecordsOf width) no_beats_in (next_number serial) n extents kept segments) (sym are.0.beats)
        (records-back (next_number serial) extents kept segments (All-tail (AreFormedRecords width) pages kept formed)
        (all-right IsRecordOfSeries segment.items (items_in segments) each) are.2),
  )

abbrev pub kept_records_of : RecordTier → List (Segment Record) → List (Item Record) → List (ℕ × Record) → KeptRecords
kept_records_of body sealed unsealed current =
    record { items = record { floor = body.floor; before = 0; count = body.sealed; sealed = sealed; unsealed = unsealed }; current = current }

module _ (last : ℕ) (tier : Tier) (body : RecordTier) (kept : List (List RecordPage)) (serial : Option ℕ) (first : serial ≡ first_number body.sealed (length body.extents)) where
  pub records-found : (sealed : List (Segment Record)) (unsealed : List (Item Record)) (current : List (ℕ × Record)) → AreRecordSegmentsIn tier.width serial body.extents kept sealed
      → AreRecordsOf tier.width body.pages unsealed → body.open_records ≡ map (open_record_of last tier.width) current → HasRecords last tier body kept (kept_records_of body sealed unsealed current)
  records-found sealed unsealed current are rest same = record {
    is = record {
      floor = refl;
      sealed = refl;
      open_records = same;
      formed = records-formed tier.width serial body.extents kept sealed are;
      segments = subst (λ (n : Option ℕ). AreRecordSegments n body.extents kept sealed)
          (first ∙ ap (first_number body.sealed) (sym (read-count (AreRecordsOf tier.width) _ serial 0 body.extents kept sealed are)))
          (records-are tier.width serial body.extents kept sealed are);
      unsealed = rest.items;
    };
    before = refl;
    each = all-append IsRecordOfSeries (items_in sealed) unsealed (records-each tier.width serial body.extents kept sealed are) rest.each;
  }

  module _ (form : list_all (is_record_page tier.width) body.pages ≡ true) (records : KeptRecords) (has : HasRecords last tier body kept records) where
    records-there : AreRecordSegmentsIn tier.width (first_number records.items.count (length records.items.sealed)) body.extents kept records.items.sealed
    records-there =
        records-back tier.width (first_number records.items.count (length records.items.sealed)) body.extents kept records.items.sealed has.is.formed
        (all_left IsRecordOfSeries (items_in records.items.sealed) records.items.unsealed has.each) has.is.segments

    -- what is read of the extents are these segments
    pub records-sealed : AreRecordSegmentsIn tier.width serial body.extents kept records.items.sealed
    records-sealed =
        let count = read-count (AreRecordsOf tier.width) _ (first_number records.items.count (length records.items.sealed)) 0 body.extents kept records.items.sealed records-there in
        let same : first_number records.items.count (length records.items.sealed) ≡ serial =
        ap (λ (n : ℕ). first_number n (length records.items.sealed)) (sym has.is.sealed) ∙ ap (first_number body.sealed) count ∙ sym first in
        subst (λ (n : Option ℕ). AreRecordSegmentsIn tier.width n body.extents kept records.items.sealed) same records-there

    pub records-unsealed : AreRecordsOf tier.width body.pages records.items.unsealed
    records-unsealed = record { form = form; items = has.is.unsealed; each = all-right IsRecordOfSeries (items_in records.items.sealed) records.items.unsealed has.each }

    pub records-one : (sealed : List (Segment Record)) (unsealed : List (Item Record)) (current : List (ℕ × Record)) → Some sealed ≡ Some records.items.sealed
        → Some unsealed ≡ Some records.items.unsealed → Some current ≡ Some records.current → Some (kept_records_of body sealed unsealed current) ≡ Some records
    records-one sealed unsealed current first_same then_same last_same =
        ap (λ (one : KeptItems Record). Some (record { items = one; current = current }))
        (kept-same (record { floor = body.floor; before = 0; count = body.sealed; sealed = sealed; unsealed = unsealed }) records.items has.is.floor (sym has.before) has.is.sealed
        (same_Some sealed records.items.sealed first_same) (same_Some unsealed records.items.unsealed then_same))
        ∙ ap (λ (one : List (ℕ × Record)). Some (record { items = records.items; current = one })) (same_Some current records.current last_same)
