-- The record of a bucket at or above the floor, from what is kept.
use Rattle.std.proofs.Common.{◌≡◌, ℕ, ◌+◌, ◌*◌, ◌/◌, ◌≤◌, ◌==◌, ◌&&◌, Bool, true, false, cond, nat_lt, List, [], ◌∷◌, ◌++◌, filter, inl, inr, Option, Some, None, arith, refl, sym, ap, subst, ◌∙◌}
use Rattle.std.specs.List.{find}
use Rattle.std.specs.Map.{lookup}
use Rattle.std.specs.Option.{option_map}
use Rattle.std.proofs.Math.Nat.{mul-le-mul_right}
use Rattle.std.proofs.lemmas.Bool.{and_left, and_right, and_from, cases_Bool, cases_eq, cases_lt, cond-true, cond-false, cond_both, eq-eqb, lt-ltb, le-ltb, ltb-true, ltb-false, ne_eqb}
use Rattle.fixed_num.specs.declared.units.Record.{Record}
use Rattle.beat_tiers.specs.declared.item.BeatPoint.{BeatPoint}
use Rattle.beat_tiers.specs.declared.item.Item.{Item}
use Rattle.tier_settings.specs.declared.tier.Tier.{Tier}
use Rattle.beat_tiers.specs.Beats.{TierBeat, last, record_of, records_in}
use Rattle.beat_tiers.specs.Floors.{cuts_of, expired_of, floor_after, floor_in, floor_of}
use Rattle.beat_tiers.specs.State.{RecordTierState, closed_record, is_item, open_record, record_in, record_items}
use Rattle.beat_tiers.specs.Tiers.{AreBeats, Group, IsRecordTierOf, closing_items, is_after, items_in, record_above, records_given, with_group}
use Rattle.beat_tiers.proofs.BucketLemmas.{outside, record_beyond, record_same}
use Rattle.beat_tiers.proofs.EntryLemmas.{lookup_is}
use Rattle.beat_tiers.proofs.GivenLemmas.{AreBelow, IsLater, above_last, beat_of, bucket_rises, placed_below, records_fall, records_placed}
use Rattle.beat_tiers.proofs.GroupLemmas.{split_items, with_items}
use Rattle.beat_tiers.proofs.KeptLemmas.{AreLeft, find_filter, left_filter}

-- ---- the first item of a bucket and series

find_later : {X : Type 0} (test : X → Bool) (xs ys : List X) → find test xs ≡ None → find test (xs ++ ys) ≡ find test ys
find_later test [] ys none = refl
find_later {X} test (x ∷ xs) ys none =
    elim (cases_Bool (test x)) [
      | inl is ↦ let found : Some x ≡ None = sym (cond-true (test x) (Some x) (find test xs) is) ∙ none in absurd (cc)
      | inr not ↦ cond-false (test x) (Some x) (find test (xs ++ ys)) not ∙ find_later test xs ys (sym (cond-false (test x) (Some x) (find test xs) not) ∙ none)
    ]

find_before : {X : Type 0} (test : X → Bool) (xs ys : List X) → find test ys ≡ None → find test (xs ++ ys) ≡ find test xs
find_before test [] ys none = none
find_before {X} test (x ∷ xs) ys none = ap (λ (rest : Option X). cond (test x) (Some x) rest) (find_before test xs ys none)

find_below : (limit bucket series : ℕ) (items : List (Item Record)) → AreBelow limit items → limit ≤ bucket → find (is_item bucket series) items ≡ None
find_below limit bucket series [] below le = refl
find_below limit bucket series (item ∷ items) below le =
    cond-false (is_item bucket series item) (Some item) (find (is_item bucket series) items) (and_left (item.place == bucket) (item.series == series) (ne_eqb item.place bucket (λ e. omega (arith, below.0))))
    ∙ find_below limit bucket series items below.1 le

-- no item of another bucket passes
none_at : (place bucket series : ℕ) (records : List (ℕ × Record)) → (place ≡ bucket → ⊥) → filter (is_item bucket series) (record_items place records) ≡ []
none_at place bucket series [] other = refl
none_at place bucket series (one ∷ records) other =
    cond-false (place == bucket && one.0 == series) _ (filter (is_item bucket series) (record_items place records)) (and_left (place == bucket) (one.0 == series) (ne_eqb place bucket other))
    ∙ none_at place bucket series records other

find_none : (place bucket series : ℕ) (records : List (ℕ × Record)) → (place ≡ bucket → ⊥) → find (is_item bucket series) (record_items place records) ≡ None
find_none place bucket series records other =
    find_filter (is_item bucket series) (record_items place records) ∙ ap (find (is_item bucket series)) (none_at place bucket series records other)

-- the value of the first item of a bucket and series
abbrev found : ℕ → ℕ → List (Item Record) → Option Record
found bucket series items = option_map (λ (item : Item Record). item.value) (find (is_item bucket series) items)

found_at : (bucket series : ℕ) (records : List (ℕ × Record)) → found bucket series (record_items bucket records) ≡ lookup (λ key. series == key) records
found_at bucket series [] = refl
found_at bucket series (one ∷ records) =
    let item : Item Record = record { place = bucket; series = one.0; value = one.1 } in
    elim (cases_eq series one.0) [
      | inl same ↦
          ap (option_map (λ (item : Item Record). item.value)) (cond-true (bucket == bucket && one.0 == series) (Some item) (find (is_item bucket series) (record_items bucket records))
          (and_from (bucket == bucket) (one.0 == series) (eq-eqb bucket bucket refl) (eq-eqb one.0 series (sym same))))
          ∙ sym (cond-true (series == one.0) (Some one.1) (lookup (λ key. series == key) records) (eq-eqb series one.0 same))
      | inr other ↦
          ap (option_map (λ (item : Item Record). item.value)) (cond-false (bucket == bucket && one.0 == series) (Some item) (find (is_item bucket series) (record_items bucket records))
          (and_right (bucket == bucket) (one.0 == series) (ne_eqb one.0 series (λ e. other (sym e)))))
          ∙ found_at bucket series records
          ∙ sym (cond-false (series == one.0) (Some one.1) (lookup (λ key. series == key) records) (ne_eqb series one.0 other))
    ]

-- the records that were given of a bucket that is not that of the last moment
found_all : (width bucket series : ℕ) (beats : List TierBeat) → 1 ≤ width → AreBeats beats → (bucket ≡ last beats / width → ⊥)
    → found bucket series (items_in (records_given width beats)) ≡ record_of width bucket beats series
found_all width bucket series [] some are other = refl
found_all width bucket series (beat ∷ beats) some are other =
    by beat.moment beat.points are.0.later other (λ other. found_all width bucket series beats some are.1 other)
  where
    by : (moment : Option ℕ) (points : List BeatPoint) → IsLater moment beats → (bucket ≡ last (beat_of moment points ∷ beats) / width → ⊥)
        → ((bucket ≡ last beats / width → ⊥) → found bucket series (items_in (records_given width beats)) ≡ record_of width bucket beats series)
        → found bucket series (items_in (records_given width (beat_of moment points ∷ beats))) ≡ record_of width bucket (beat_of moment points ∷ beats) series
    by None points later other rest = rest other
    by (Some moment) points later other rest =
        let all : found bucket series (items_in (records_given width (beat_of (Some moment) points ∷ beats))) ≡ found bucket series (items_in (records_given width beats) ++ closing_items width beats moment) =
        ap (found bucket series) (with_items moment (closing_items width beats moment) (records_given width beats)) in
        let same : record_of width bucket beats series ≡ record_of width bucket (beat_of (Some moment) points ∷ beats) series =
        sym (record_same width bucket moment series points beats (outside width bucket moment some other)) in
        elim (cases_lt (last beats / width) (moment / width)) [
          | inl closes ↦
              let closing : closing_items width beats moment ≡ record_items (last beats / width) (records_in width (last beats / width) beats) =
              cond-true _ _ _ (lt-ltb (last beats / width) (moment / width) closes) in
              let both : found bucket series (items_in (records_given width beats) ++ closing_items width beats moment) ≡ found bucket series (items_in (records_given width beats) ++ record_items (last beats / width) (records_in width (last beats / width) beats)) =
              ap (λ (items : List (Item Record)). found bucket series (items_in (records_given width beats) ++ items)) closing in
              elim (cases_eq bucket (last beats / width)) [
                | inl here ↦
                    all ∙ both
                    ∙ ap (option_map (λ (item : Item Record). item.value)) (find_later (is_item bucket series) (items_in (records_given width beats)) (record_items (last beats / width) (records_in width (last beats / width) beats))
                    (find_below (last beats / width) bucket series (items_in (records_given width beats)) (placed_below (last beats / width) (records_given width beats) (records_placed width beats some are.1)) (omega arith)))
                    ∙ ap (λ n. found bucket series (record_items n (records_in width n beats))) (sym here)
                    ∙ found_at bucket series (records_in width bucket beats)
                    ∙ lookup_is (record_of width bucket beats) series (record_beyond width bucket series beats are.1)
                    ∙ same
                | inr there ↦
                    all ∙ both
                    ∙ ap (option_map (λ (item : Item Record). item.value)) (find_before (is_item bucket series) (items_in (records_given width beats)) (record_items (last beats / width) (records_in width (last beats / width) beats))
                    (find_none (last beats / width) bucket series (records_in width (last beats / width) beats) (λ e. there (sym e))))
                    ∙ rest there
                    ∙ same
              ]
          | inr le ↦
              let rises : last beats / width ≤ moment / width = bucket_rises width (last beats) moment some (omega (arith, above_last moment beats later)) in
              let one : moment / width ≡ last beats / width = omega arith in
              all
              ∙ ap (λ (items : List (Item Record)). found bucket series (items_in (records_given width beats) ++ items)) (cond-false _ _ _ (le-ltb (last beats / width) (moment / width) le))
              ∙ ap (option_map (λ (item : Item Record). item.value)) (find_before (is_item bucket series) (items_in (records_given width beats)) [] refl)
              ∙ rest (λ e. other (e ∙ sym one))
              ∙ same
        ]

-- ---- what has expired

-- a beat that is not after the last that expired closes no bucket at or above the floor
expired_below : (number : ℕ) (tier : Tier) (expired : Option ℕ) (moment bucket : ℕ) → 1 ≤ number → 1 ≤ tier.width → floor_in number tier expired ≤ bucket * tier.width → is_after expired moment ≡ false
    → moment / tier.width ≤ bucket
expired_below number tier None moment bucket one some floor before = absurd (cc)
expired_below number tier (Some from) moment bucket one some floor before =
    let is : floor_after number tier from ≡ tier.width * (from / tier.width) = cond-false (number == 0) (from + 1) (tier.width * (from / tier.width)) (ne_eqb number 0 (λ e. omega arith)) in
    let rises : moment / tier.width ≤ from / tier.width = bucket_rises tier.width moment from some (ltb-false from moment before) in
    elim (cases_lt bucket (from / tier.width)) [
      | inl lt ↦
          let over : (bucket + 1) * tier.width ≤ from / tier.width * tier.width = mul-le-mul_right tier.width (omega arith) in
          let low : tier.width * (from / tier.width) ≤ bucket * tier.width = subst (λ n. n ≤ bucket * tier.width) is floor in
          absurd (omega (arith, over, low, some))
      | inr le ↦ omega (arith, rises, le)
    ]

records_left : (number : ℕ) (tier : Tier) (expired : Option ℕ) (bucket series : ℕ) (beats : List TierBeat) → 1 ≤ number → 1 ≤ tier.width → floor_in number tier expired ≤ bucket * tier.width
    → AreLeft (λ (group : Group Record). is_after expired group.moment) (is_item bucket series) (records_given tier.width beats)
records_left number tier expired bucket series [] one some floor = tt
records_left number tier expired bucket series (beat ∷ beats) one some floor = by beat.moment beat.points (records_left number tier expired bucket series beats one some floor)
  where
    more : (moment : ℕ) (items : List (Item Record)) → (is_after expired moment ≡ false → filter (is_item bucket series) items ≡ [])
        → AreLeft (λ (group : Group Record). is_after expired group.moment) (is_item bucket series) (records_given tier.width beats)
        → AreLeft (λ (group : Group Record). is_after expired group.moment) (is_item bucket series) (with_group moment items (records_given tier.width beats))
    more moment [] none rest = rest
    more moment (item ∷ items) none rest = (none, rest)

    none : (moment : ℕ) → is_after expired moment ≡ false → filter (is_item bucket series) (closing_items tier.width beats moment) ≡ []
    none moment before =
        let past : moment / tier.width ≤ bucket = expired_below number tier expired moment bucket one some floor before in
        cond_both (nat_lt (last beats / tier.width) (moment / tier.width)) (record_items (last beats / tier.width) (records_in tier.width (last beats / tier.width) beats)) []
        (λ (items : List (Item Record)). filter (is_item bucket series) items ≡ [])
        (λ e. none_at (last beats / tier.width) bucket series (records_in tier.width (last beats / tier.width) beats) (λ same. let lt = ltb-true (last beats / tier.width) (moment / tier.width) e in omega (arith, lt, past)))
        (λ e. refl)

    by : (moment : Option ℕ) (points : List BeatPoint)
        → AreLeft (λ (group : Group Record). is_after expired group.moment) (is_item bucket series) (records_given tier.width beats)
        → AreLeft (λ (group : Group Record). is_after expired group.moment) (is_item bucket series) (records_given tier.width (beat_of moment points ∷ beats))
    by None points rest = rest
    by (Some moment) points rest = more moment (closing_items tier.width beats moment) (none moment) rest

-- ---- what is answered

closed_is : (number : ℕ) (one : RecordTierState) (beats : List TierBeat) (series bucket : ℕ) → 1 ≤ number → AreBeats beats → IsRecordTierOf beats number one
    → floor_of number one.tier beats ≤ bucket * one.tier.width → (bucket ≡ last beats / one.tier.width → ⊥)
    → closed_record one series bucket ≡ record_of one.tier.width bucket beats series
closed_is number one beats series bucket some are is floor other =
    let expired : Option ℕ = expired_of one.tier (cuts_of number one.tier beats) in
    let kept : List (Group Record) = filter (λ (group : Group Record). is_after expired group.moment) (records_given one.tier.width beats) in
    let value : Option (Item Record) → Option Record = option_map (λ (item : Item Record). item.value) in
    ap (found bucket series) (split_items (last beats + 1) expired one.segments.sealed one.segments.unsealed (records_given one.tier.width beats) (records_fall one.tier.width beats are) is.segments.split)
    ∙ ap value (find_filter (is_item bucket series) (items_in kept)
    ∙ ap (find (is_item bucket series)) (left_filter (λ (group : Group Record). is_after expired group.moment) (is_item bucket series) (records_given one.tier.width beats)
    (records_left number one.tier expired bucket series beats some is.settings.width floor))
    ∙ sym (find_filter (is_item bucket series) (items_in (records_given one.tier.width beats))))
    ∙ found_all one.tier.width bucket series beats is.settings.width are other

-- The record of a bucket that is kept.
pub record_kept : (number : ℕ) (one : RecordTierState) (beats : List TierBeat) (now series bucket : ℕ) → 1 ≤ number → now ≡ last beats → AreBeats beats → IsRecordTierOf beats number one
    → record_in one now series bucket ≡ record_above (floor_of number one.tier beats) one.tier.width bucket beats series
record_kept number one beats now series bucket some is_last are is =
    ap (λ n. record_in one n series bucket) is_last
    ∙ ap (λ n. cond (nat_lt (bucket * one.tier.width) n) None (cond (bucket == last beats / one.tier.width) (open_record one series) (closed_record one series bucket))) is.segments.floor
    ∙ by (nat_lt (bucket * one.tier.width) (floor_of number one.tier beats)) refl
  where
    above : floor_of number one.tier beats ≤ bucket * one.tier.width
        → cond (bucket == last beats / one.tier.width) (open_record one series) (closed_record one series bucket) ≡ record_of one.tier.width bucket beats series
    above floor =
        elim (cases_eq bucket (last beats / one.tier.width)) [
          | inl same ↦
              cond-true _ _ _ (eq-eqb bucket (last beats / one.tier.width) same)
              ∙ ap (lookup (λ key. series == key)) is.current
              ∙ lookup_is (record_of one.tier.width (last beats / one.tier.width) beats) series (record_beyond one.tier.width (last beats / one.tier.width) series beats are)
              ∙ ap (λ n. record_of one.tier.width n beats series) (sym same)
          | inr other ↦
              cond-false _ _ _ (ne_eqb bucket (last beats / one.tier.width) other)
              ∙ closed_is number one beats series bucket some are is floor other
        ]

    by : (b : Bool) → nat_lt (bucket * one.tier.width) (floor_of number one.tier beats) ≡ b
        → cond b None (cond (bucket == last beats / one.tier.width) (open_record one series) (closed_record one series bucket)) ≡ cond b None (record_of one.tier.width bucket beats series)
    by true e = refl
    by false e = above (ltb-false (bucket * one.tier.width) (floor_of number one.tier beats) e)
