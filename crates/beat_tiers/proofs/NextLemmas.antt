-- The first record between two buckets, from what is kept.
use Rattle.std.proofs.Common.{◌≡◌, ℕ, ◌+◌, ◌*◌, ◌/◌, ◌<◌, ◌≤◌, ◌==◌, ◌&&◌, ◌⊎◌, true, false, cond, max, nat_le, List, [], ◌∷◌, Option, Some, None, inl, inr, arith, refl, sym, ap, subst, ◌∙◌}
use Rattle.std.specs.List.{find}
use Rattle.std.specs.Option.{option_map}
use Rattle.std.proofs.Math.Nat.{mul-le-mul_right}
use Rattle.std.proofs.lemmas.Bool.{and_parts, cases_Bool, cases_eq, cases_lt, cond-true, cond-false, eq-eqb, eqb-true, leb-true, lt-ltb, le-ltb, ne_eqb}
use Rattle.std.proofs.lemmas.Bool.Decides.{nat_tests}
use Rattle.std.proofs.lemmas.Grind.{div_ceil_times}
use Rattle.list_lemmas.proofs.Searches.{found-all}
use Rattle.fixed_num.specs.declared.units.Record.{Record}
use Rattle.beat_tiers.specs.declared.item.Item.{Item}
use Rattle.beat_tiers.specs.Searching.{is_next}
use Rattle.beat_tiers.specs.Segments.{items_of}
use Rattle.beat_tiers.specs.State.{AreClosed, RecordTierState, closed_record, first_bucket, is_item, open_record, record_in}
use Rattle.beat_tiers.specs.Tiers.{AreOrdered, HaveNoRecord, IsFirstRecord}
use Rattle.beat_tiers.proofs.Ordered.{ordered-tail, place-le}

module _ (series low to : ℕ) where
  record Passes (item : Item Record) : Type 0 where
    low_is : low ≤ item.place
    high_is : item.place ≤ to
    series_is : item.series ≡ series

  passes : (item : Item Record) → is_next series low to item ≡ true → Passes item
  passes item is =
      let parts = and_parts (nat_le low item.place) _ is in
      let rest = and_parts (nat_le item.place to) (item.series == series) parts.1 in
      record { low_is = leb-true low item.place parts.0; high_is = leb-true item.place to rest.0; series_is = eqb-true item.series series rest.1 }

  -- an item of a bucket between the places passes
  no_item : (item : Item Record) (bucket : ℕ) → is_next series low to item ≡ false → low ≤ bucket → bucket ≤ to → is_item bucket series item ≡ false
  no_item item bucket fails least most = grind (arith, nat_tests)

  none_between : (items : List (Item Record)) (bucket : ℕ) → find (is_next series low to) items ≡ None → low ≤ bucket → bucket ≤ to → find (is_item bucket series) items ≡ None
  none_between [] bucket none least most = refl
  none_between (item ∷ items) bucket none least most =
      elim (cases_Bool (is_next series low to item)) [
        | inl passed ↦ absurd (let e : Some item ≡ None = sym (cond-true (is_next series low to item) (Some item) (find (is_next series low to) items) passed) ∙ none in cc)
        | inr fails ↦
            cond-false (is_item bucket series item) (Some item) (find (is_item bucket series) items) (no_item item bucket fails least most)
            ∙ none_between items bucket (sym (cond-false (is_next series low to item) (Some item) (find (is_next series low to) items) fails) ∙ none) least most
      ]

  -- no item at or after one of a later bucket is of the bucket
  none_later : (items : List (Item Record)) (first : Item Record) (bucket : ℕ) → AreOrdered (first ∷ items) → bucket < first.place → find (is_item bucket series) (first ∷ items) ≡ None
  none_later [] first bucket ordered less = cond-false (is_item bucket series first) (Some first) None (grind (arith, nat_tests))
  none_later (next ∷ items) first bucket ordered less =
      cond-false (is_item bucket series first) (Some first) (find (is_item bucket series) (next ∷ items)) (grind (arith, nat_tests))
      ∙ none_later items next bucket ordered.1 (let le = place-le first next ordered.0 in omega (arith, le, less))

  record IsFound (items : List (Item Record)) (item : Item Record) : Type 0 where
    passes_is : Passes item
    here : find (is_item item.place series) items ≡ Some item
    before : (bucket : ℕ) → low ≤ bucket → bucket < item.place → find (is_item bucket series) items ≡ None

  found_is : (items : List (Item Record)) (item : Item Record) → AreOrdered items → find (is_next series low to) items ≡ Some item → IsFound items item
  found_is [] item ordered found = absurd cc
  found_is (first ∷ items) item ordered found =
      elim (cases_Bool (is_next series low to first)) [
        | inl passed ↦
            let same : Some first ≡ Some item = sym (cond-true (is_next series low to first) (Some first) (find (is_next series low to) items) passed) ∙ found in
            let one : first ≡ item = cc in
            subst (IsFound (first ∷ items)) one (record {
              passes_is = passes first passed;
              here = cond-true (is_item first.place series first) (Some first) (find (is_item first.place series) items) (let p = passes first passed in is_own first p.series_is);
              before = λ bucket least less. none_later items first bucket ordered less;
            })
        | inr fails ↦
            let rest = found_is items item (ordered-tail first items ordered) (sym (cond-false (is_next series low to first) (Some first) (find (is_next series low to) items) fails) ∙ found) in
            let p = rest.passes_is in
            record {
              passes_is = p;
              here = cond-false (is_item item.place series first) (Some first) (find (is_item item.place series) items) (no_item first item.place fails p.low_is p.high_is) ∙ rest.here;
              before = λ bucket least less.
                  cond-false (is_item bucket series first) (Some first) (find (is_item bucket series) items) (no_item first bucket fails least (omega (arith, less, p.high_is))) ∙ rest.before bucket least less;
            }
      ]
    where
      is_own : (one : Item Record) → one.series ≡ series → is_item one.place series one ≡ true
      is_own one same = grind (arith, nat_tests)

-- ---- the record of a bucket, by where it lies

module _ (one : RecordTierState) (last series : ℕ) (wide : 1 ≤ one.tier.width) where
  first_kept_is : (one.segments.floor ≤ first_bucket one * one.tier.width) × (first_bucket one * one.tier.width < one.segments.floor + one.tier.width)
  first_kept_is = div_ceil_times one.segments.floor one.tier.width wide

  below_kept : (bucket : ℕ) → bucket < first_bucket one → record_in one last series bucket ≡ None
  below_kept bucket less =
      let more : (bucket + 1) * one.tier.width ≤ first_bucket one * one.tier.width = mul-le-mul_right one.tier.width (omega arith) in
      cond-true _ _ _ (lt-ltb (bucket * one.tier.width) one.segments.floor (omega (arith, first_kept_is.1, more)))

  from_kept : (bucket : ℕ) → first_bucket one ≤ bucket → record_in one last series bucket ≡ cond (bucket == last / one.tier.width) (open_record one series) (closed_record one series bucket)
  from_kept bucket high =
      let more : first_bucket one * one.tier.width ≤ bucket * one.tier.width = mul-le-mul_right one.tier.width high in
      cond-false _ _ _ (le-ltb (bucket * one.tier.width) one.segments.floor (omega (arith, first_kept_is.0, more)))

  closed_at : (bucket : ℕ) → first_bucket one ≤ bucket → (bucket ≡ last / one.tier.width → ⊥) → record_in one last series bucket ≡ closed_record one series bucket
  closed_at bucket high other = from_kept bucket high ∙ cond-false _ _ _ (ne_eqb bucket (last / one.tier.width) other)

  open_at : (bucket : ℕ) → first_bucket one ≤ bucket → bucket ≡ last / one.tier.width → record_in one last series bucket ≡ open_record one series
  open_at bucket high same = from_kept bucket high ∙ cond-true _ _ _ (eq-eqb bucket (last / one.tier.width) same)

  abbrev found_in : ℕ → Option Record
  found_in bucket = record_in one last series bucket

  -- no closed record lies in the buckets, and that of the last moment is not among them
  none_closed : (from low before : ℕ) → low ≡ max from (first_bucket one) → ((bucket : ℕ) → low ≤ bucket → bucket < before → find (is_item bucket series) (items_of one.segments) ≡ None)
      → (bucket : ℕ) → from ≤ bucket → bucket < before → (bucket ≡ last / one.tier.width → ⊥) → found_in bucket ≡ None
  none_closed from low before low_is none bucket least less other =
      elim (cases_lt bucket (first_bucket one)) [
        | inl under ↦ below_kept bucket under
        | inr kept ↦
            closed_at bucket kept other
            ∙ ap (option_map (λ (item : Item Record). item.value)) (none bucket (omega (arith, low_is, least, kept)) less)
      ]

  pub closed_first : (from low to : ℕ) (item : Item Record) → low ≡ max from (first_bucket one) → AreOrdered (items_of one.segments) → AreClosed last one
      → Some item ≡ find (is_next series low to) (items_of one.segments) → IsFirstRecord found_in from to (Some (item.place, item.value))
  closed_first from low to item low_is ordered closed found =
      let is : IsFound series low to (items_of one.segments) item = found_is series low to (items_of one.segments) item ordered (sym found) in
      let p = is.passes_is in
      let early : item.place < last / one.tier.width = found-all (λ (item : Item Record). item.place < last / one.tier.width) (is_next series low to) (items_of one.segments) item closed (sym found) in
      record {
        low = let least = p.low_is in omega (arith, low_is, least);
        high = p.high_is;
        here = closed_at item.place (let least = p.low_is in omega (arith, low_is, least)) (λ e. omega (arith, e, early)) ∙ ap (option_map (λ (item : Item Record). item.value)) is.here;
        none_before = λ bucket least less. none_closed from low item.place low_is is.before bucket least less (λ e. omega (arith, e, early, less));
      }

  open_first : (from low to : ℕ) → low ≡ max from (first_bucket one)
      → ((bucket : ℕ) → low ≤ bucket → bucket < to + 1 → find (is_item bucket series) (items_of one.segments) ≡ None)
      → low ≤ last / one.tier.width → last / one.tier.width ≤ to → (found : Option Record) → open_record one series ≡ found
      → IsFirstRecord found_in from to (option_map (λ (found : Record). (last / one.tier.width, found)) found)
  open_first from low to low_is none least most None is = λ bucket from_least less.
      elim (cases_eq bucket (last / one.tier.width)) [
        | inl same ↦ open_at bucket (omega (arith, low_is, least, same)) same ∙ is
        | inr other ↦ none_closed from low (to + 1) low_is none bucket from_least less other
      ]
  open_first from low to low_is none least most (Some found) is = record {
    low = omega (arith, low_is, least);
    high = most;
    here = open_at (last / one.tier.width) (omega (arith, low_is, least)) refl ∙ is;
    none_before = λ bucket from_least less. none_closed from low (to + 1) low_is none bucket from_least (omega (arith, less, most)) (λ e. omega (arith, e, less));
  }

  not_among : (from low to : ℕ) → low ≡ max from (first_bucket one)
      → ((bucket : ℕ) → low ≤ bucket → bucket < to + 1 → find (is_item bucket series) (items_of one.segments) ≡ None)
      → (low ≤ last / one.tier.width → last / one.tier.width ≤ to → ⊥) → HaveNoRecord found_in from (to + 1)
  not_among from low to low_is none out bucket least less =
      elim (cases_lt bucket (first_bucket one)) [
        | inl under ↦ below_kept bucket under
        | inr kept ↦ none_closed from low (to + 1) low_is none bucket least less (λ e. out (omega (arith, low_is, least, kept, e)) (omega (arith, e, less)))
      ]

  pub open_next : (from low to : ℕ) (result : Option (ℕ × Record)) → low ≡ max from (first_bucket one) → None ≡ find (is_next series low to) (items_of one.segments)
      → result ≡ cond (nat_le low (last / one.tier.width) && nat_le (last / one.tier.width) to) (option_map (λ (found : Record). (last / one.tier.width, found)) (open_record one series)) None
      → IsFirstRecord found_in from to result
  open_next from low to result low_is none is =
      subst (IsFirstRecord found_in from to) (sym is) (by (cases_Bool (nat_le low (last / one.tier.width) && nat_le (last / one.tier.width) to)))
    where
      bare : (bucket : ℕ) → low ≤ bucket → bucket < to + 1 → find (is_item bucket series) (items_of one.segments) ≡ None
      bare bucket least less = none_between series low to (items_of one.segments) bucket (sym none) least (omega arith)

      by : ((nat_le low (last / one.tier.width) && nat_le (last / one.tier.width) to) ≡ true) ⊎ ((nat_le low (last / one.tier.width) && nat_le (last / one.tier.width) to) ≡ false)
          → IsFirstRecord found_in from to (cond (nat_le low (last / one.tier.width) && nat_le (last / one.tier.width) to) (option_map (λ (found : Record). (last / one.tier.width, found)) (open_record one series)) None)
      by (inl passed) =
          let parts = and_parts (nat_le low (last / one.tier.width)) (nat_le (last / one.tier.width) to) passed in
          subst (IsFirstRecord found_in from to) (sym (cond-true _ _ _ passed))
          (open_first from low to low_is bare (leb-true low (last / one.tier.width) parts.0) (leb-true (last / one.tier.width) to parts.1) (open_record one series) refl)
      by (inr fails) =
          subst (IsFirstRecord found_in from to) (sym (cond-false _ _ _ fails))
          (not_among from low to low_is bare (λ least most. let passed = both least most in let e : true ≡ false = sym passed ∙ fails in cc))
        where
          both : low ≤ last / one.tier.width → last / one.tier.width ≤ to → (nat_le low (last / one.tier.width) && nat_le (last / one.tier.width) to) ≡ true
          both least most = grind (arith, nat_tests)
