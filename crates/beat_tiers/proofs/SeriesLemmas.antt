-- The items of a series, among others and by themselves.
use Rattle.std.proofs.Common.{◌≡◌, ℕ, zero, suc, ◌==◌, ◌&&◌, Bool, true, false, cond, leb, List, [], ◌∷◌, length, drop, Some, None, arith, refl, sym, ap, ◌∙◌}
use Rattle.std.specs.List.{AllByRecursion, filter, filter_map, find}
use Rattle.std.specs.List.Sorted.{IsNonDecreasingBy, IsStableByKey, ties}
use Rattle.std.specs.Ordering.{is_lt, nat_cmp}
use Rattle.std.proofs.lemmas.Bool.Decides.{nat_tests}
use Rattle.fixed_num.specs.declared.units.Record.{Record}
use Rattle.beat_tiers.specs.declared.item.Item.{Item}
use Rattle.beat_tiers.specs.declared.item.Stepped.{Stepped}
use Rattle.beat_tiers.specs.Searching.{is_next, is_of}
use Rattle.beat_tiers.specs.State.{point_at}
use Rattle.beat_tiers.specs.Tiers.{AreOrdered}
use Rattle.beat_tiers.proofs.Halves.{find_kept}
use Rattle.beat_tiers.proofs.Ordered.{Precedes, ordered-tail, precedes-trans}
use Rattle.beat_tiers.proofs.Searches.{filter_map-filter}

-- a filter by tests that agree
filter_agree : {X : Type 0} (p q : X → Bool) → ((x : X) → p x ≡ q x) → (xs : List X) → filter p xs ≡ filter q xs
filter_agree p q same [] = refl
filter_agree p q same (x ∷ xs) = ap (λ b. cond b (x ∷ filter p xs) (filter p xs)) (same x) ∙ ap (λ rest. cond (q x) (x ∷ rest) rest) (filter_agree p q same xs)

filter_twice : {X : Type 0} (p q : X → Bool) (xs : List X) → filter p (filter q xs) ≡ filter (λ x. q x && p x) xs
filter_twice p q [] = refl
filter_twice p q (x ∷ xs) = by (q x) (filter_twice p q xs)
  where
    by : (b : Bool) → filter p (filter q xs) ≡ filter (λ x. q x && p x) xs
        → filter p (cond b (x ∷ filter q xs) (filter q xs)) ≡ cond (b && p x) (x ∷ filter (λ x. q x && p x) xs) (filter (λ x. q x && p x) xs)
    by true rest = ap (λ rest. cond (p x) (x ∷ rest) rest) rest
    by false rest = rest

and_same : (b : Bool) → b && b ≡ b
and_same true = refl
and_same false = refl

pub filter_again : {X : Type 0} (p : X → Bool) (xs : List X) → filter p (filter p xs) ≡ filter p xs
filter_again p xs = filter_twice p p xs ∙ filter_agree (λ x. p x && p x) p (λ x. and_same (p x)) xs

module _ {T : Type 0} where
  both_are : (series : ℕ) (item : Item T) → leb series item.series && leb item.series series ≡ item.series == series
  both_are series item = grind (arith, nat_tests)

  -- from a series on and up to it
  pub run_is : (series : ℕ) (items : List (Item T)) → filter (λ (item : Item T). leb item.series series) (filter (λ (item : Item T). leb series item.series) items) ≡ filter (is_of series) items
  run_is series items =
      filter_twice (λ (item : Item T). leb item.series series) (λ (item : Item T). leb series item.series) items
      ∙ filter_agree (λ (item : Item T). leb series item.series && leb item.series series) (is_of series) (both_are series) items

  ties_are : (a b : Item T) → ties (λ x y. is_lt (nat_cmp x.series y.series)) a b ≡ b.series == a.series
  ties_are a b = grind (arith, nat_tests)

  -- a stable sort by series keeps those of each series in their order
  pub stable_same : (items sorted : List (Item T)) → length sorted ≡ length items → IsStableByKey (λ (item : Item T). item.series) nat_cmp items sorted
      → (series : ℕ) → filter (is_of series) sorted ≡ filter (is_of series) items
  stable_same [] [] long stable series = refl
  stable_same [] (one ∷ sorted) long stable series = absurd (omega (arith, long))
  stable_same (first ∷ items) sorted long stable series =
      let of_series : Item T = record first { series = series } in
      let lt : Item T → Item T → Bool = λ x y. is_lt (nat_cmp x.series y.series) in
      sym (filter_agree (ties lt of_series) (is_of series) (ties_are of_series) sorted)
      ∙ stable of_series
      ∙ filter_agree (ties lt of_series) (is_of series) (ties_are of_series) (first ∷ items)

  -- ---- in their order

  abbrev AreBehind : Item T → List (Item T) → Type 0
  AreBehind x items = AllByRecursion (Precedes x) items

  all_behind : (x y : Item T) (items : List (Item T)) → Precedes x y → AreBehind y items → AreBehind x items
  all_behind x y [] before all = tt
  all_behind x y (z ∷ items) before all = (precedes-trans x y z before all.0, all_behind x y items before all.1)

  behind_ordered : (x : Item T) (items : List (Item T)) → AreOrdered (x ∷ items) → AreBehind x items
  behind_ordered x [] ordered = tt
  behind_ordered x (y ∷ items) ordered = (ordered.0, all_behind x y items ordered.0 (behind_ordered y items ordered.1))

  ordered_behind : (x : Item T) (items : List (Item T)) → AreBehind x items → AreOrdered items → AreOrdered (x ∷ items)
  ordered_behind x [] behind ordered = tt
  ordered_behind x (y ∷ items) behind ordered = (behind.0, ordered)

  behind_filter : (p : Item T → Bool) (x : Item T) (items : List (Item T)) → AreBehind x items → AreBehind x (filter p items)
  behind_filter p x [] all = tt
  behind_filter p x (y ∷ items) all = by (p y) (behind_filter p x items all.1)
    where
      by : (b : Bool) → AreBehind x (filter p items) → AreBehind x (cond b (y ∷ filter p items) (filter p items))
      by true rest = (all.0, rest)
      by false rest = rest

  pub ordered_filter : (p : Item T → Bool) (items : List (Item T)) → AreOrdered items → AreOrdered (filter p items)
  ordered_filter p [] ordered = tt
  ordered_filter p (x ∷ items) ordered = by (p x) (ordered_filter p items (ordered-tail x items ordered))
    where
      by : (b : Bool) → AreOrdered (filter p items) → AreOrdered (cond b (x ∷ filter p items) (filter p items))
      by true rest = ordered_behind x (filter p items) (behind_filter p x items (behind_ordered x items ordered)) rest
      by false rest = rest

  pub rises_drop : (n : ℕ) (items : List (Item T)) → IsNonDecreasingBy (λ (item : Item T). item.series) items → IsNonDecreasingBy (λ (item : Item T). item.series) (drop n items)
  rises_drop zero items rises = rises
  rises_drop (suc n) [] rises = λ i j d le lt. absurd (omega arith)
  rises_drop (suc n) (x ∷ items) rises = rises_drop n items (λ i j d le lt. rises (suc i) (suc j) d (omega arith) (omega arith))

-- ---- what is asked of a series reads its items alone

not_of : (floor series from to : ℕ) (item : Item Stepped) → is_of series item ≡ false → point_at floor series from to item ≡ None
not_of floor series from to item other = ap (λ b. cond (((b && leb floor item.place) && leb from item.place) && leb item.place to) (Some (record { moment = item.place; word = item.value.word })) None) other

pub points_same : (floor series from to : ℕ) (run items : List (Item Stepped)) → filter (is_of series) run ≡ filter (is_of series) items
    → filter_map (point_at floor series from to) run ≡ filter_map (point_at floor series from to) items
points_same floor series from to run items same =
    sym (filter_map-filter (is_of series) (point_at floor series from to) (not_of floor series from to) run) ∙ ap (filter_map (point_at floor series from to)) same
    ∙ filter_map-filter (is_of series) (point_at floor series from to) (not_of floor series from to) items

not_next : (series from to : ℕ) (item : Item Record) → is_of series item ≡ false → is_next series from to item ≡ false
not_next series from to item other = by (leb from item.place) (leb item.place to) (item.series == series) other
  where
    by : (a b c : Bool) → c ≡ false → a && (b && c) ≡ false
    by true true c e = e
    by true false c e = refl
    by false b c e = refl

pub next_same : (series from to : ℕ) (run items : List (Item Record)) → filter (is_of series) run ≡ filter (is_of series) items
    → find (is_next series from to) run ≡ find (is_next series from to) items
next_same series from to run items same =
    sym (find_kept (is_next series from to) (is_of series) (not_next series from to) run) ∙ ap (find (is_next series from to)) same
    ∙ find_kept (is_next series from to) (is_of series) (not_next series from to) items
