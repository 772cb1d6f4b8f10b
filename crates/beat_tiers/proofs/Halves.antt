-- Which segments have items from a place to another.
use Rattle.std.proofs.Common.{◌≡◌, ℕ, zero, suc, ◌-◌, ◌<◌, ◌≤◌, Bool, true, false, cond, leb, ltb, List, [], ◌∷◌, ◌++◌, length, take, drop, get_or, slice_get, flat_map, ◌&&◌, ◌==◌, inl, inr, Option, Some, None, arith, refl, sym, ap, subst, ◌∙◌}
use Rattle.std.specs.List.{AllByRecursion, AllWithin, filter, filter_map, find}
use Rattle.std.specs.List.Sorted.{IsNonDecreasingBy}
use Rattle.std.specs.Option.{option_map_or}
use Rattle.std.proofs.lemmas.Bool.{cases_Bool, cond-true, cond-false, ltb-true}
use Rattle.std.proofs.lemmas.Bool.Decides.{nat_tests}
use Rattle.fixed_num.specs.declared.units.Record.{Record}
use Rattle.beat_tiers.specs.declared.item.Item.{Item}
use Rattle.beat_tiers.specs.declared.parts.Segment.{Segment}
use Rattle.beat_tiers.specs.Searching.{HasItems, first_place, is_next, items_in, last_place}
use Rattle.beat_tiers.specs.State.{is_item}
use Rattle.beat_tiers.specs.Tiers.{AreOrdered}
use Rattle.beat_tiers.proofs.Searches.{filter_map-filter}
use Rattle.std.proofs.lemmas.List.{take-append-drop}
use Rattle.std.proofs.lemmas.List.Concat.{flat_map-append}
use Rattle.beat_tiers.proofs.Ordered.{ordered-left, ordered-right, ordered-tail, place-le}

pub all_left : {X : Type 0} (P : X → Type 0) (xs ys : List X) → AllByRecursion P (xs ++ ys) → AllByRecursion P xs
all_left P [] ys all = tt
all_left P (x ∷ xs) ys all = (all.0, all_left P xs ys all.1)

pub all_right : {X : Type 0} (P : X → Type 0) (xs ys : List X) → AllByRecursion P (xs ++ ys) → AllByRecursion P ys
all_right P [] ys all = all
all_right P (x ∷ xs) ys all = all_right P xs ys all.1

all_part : {X Y : Type 0} (P : Y → Type 0) (f : X → List Y) (xs : List X) (j : ℕ) (d : X) → j < length xs → AllByRecursion P (flat_map f xs) → AllByRecursion P (f (get_or xs j d))
all_part P f [] j d lt all = absurd (omega arith)
all_part P f (x ∷ xs) zero d lt all = all_left P (f x) (flat_map f xs) all
all_part P f (x ∷ xs) (suc j) d lt all = all_part P f xs j d (omega arith) (all_right P (f x) (flat_map f xs) all)

all_here : {X : Type 0} (P : X → Type 0) (xs : List X) (j : ℕ) (d : X) → j < length xs → AllByRecursion P xs → P (get_or xs j d)
all_here P [] j d lt all = absurd (omega arith)
all_here P (x ∷ xs) zero d lt all = all.0
all_here P (x ∷ xs) (suc j) d lt all = all_here P xs j d (omega arith) all.1

module _ {T : Type 0} where
  -- the places of the first and the last of some items
  abbrev first_of : List (Item T) → ℕ
  first_of items = option_map_or (λ (item : Item T). item.place) (slice_get items 0) 0

  abbrev last_of : List (Item T) → ℕ
  last_of items = option_map_or (λ (item : Item T). item.place) (slice_get items (length items - 1)) 0

  abbrev AreFrom : ℕ → List (Item T) → Type 0
  AreFrom low items = AllByRecursion (λ (item : Item T). low ≤ item.place) items

  abbrev AreUpTo : ℕ → List (Item T) → Type 0
  AreUpTo high items = AllByRecursion (λ (item : Item T). item.place ≤ high) items

  last_more : (x y : Item T) (xs : List (Item T)) → last_of (x ∷ y ∷ xs) ≡ last_of (y ∷ xs)
  last_more x y xs =
      let e : length (x ∷ y ∷ xs) - 1 ≡ suc (length (y ∷ xs) - 1) = omega arith in
      ap (λ n. option_map_or (λ (item : Item T). item.place) (slice_get (x ∷ y ∷ xs) n) 0) e

  from_less : (low least : ℕ) (items : List (Item T)) → least ≤ low → AreFrom low items → AreFrom least items
  from_less low least [] le from = tt
  from_less low least (item ∷ items) le from = (omega (arith, le, from.0), from_less low least items le from.1)

  -- behind an item are later places
  from_first : (x : Item T) (xs : List (Item T)) → AreOrdered (x ∷ xs) → AreFrom x.place xs
  from_first x [] ordered = tt
  from_first x (y ∷ xs) ordered =
      let le = place-le x y ordered.0 in (le, from_less y.place x.place xs le (from_first y xs ordered.1))

  from_last : (xs ys : List (Item T)) → AreOrdered (xs ++ ys) → AreFrom (last_of xs) ys
  from_last [] ys ordered = all_any ys
    where
      all_any : (ys : List (Item T)) → AreFrom 0 ys
      all_any [] = tt
      all_any (y ∷ ys) = (omega arith, all_any ys)
  from_last (x ∷ []) ys ordered = from_first x ys ordered
  from_last (x ∷ y ∷ xs) ys ordered = subst (λ n. AreFrom n ys) (sym (last_more x y xs)) (from_last (y ∷ xs) ys (ordered-tail x (y ∷ (xs ++ ys)) ordered))

  -- the last is behind all
  up_to_last : (xs : List (Item T)) → AreOrdered xs → AreUpTo (last_of xs) xs
  up_to_last [] ordered = tt
  up_to_last (x ∷ []) ordered = (omega arith, tt)
  up_to_last (x ∷ y ∷ xs) ordered =
      let rest = up_to_last (y ∷ xs) ordered.1 in
      let le = place-le x y ordered.0 in
      subst (λ n. AreUpTo n (x ∷ y ∷ xs)) (sym (last_more x y xs)) (omega (arith, le, rest.0), rest)

  last_from : (low : ℕ) (xs : List (Item T)) → 1 ≤ length xs → AreFrom low xs → low ≤ last_of xs
  last_from low [] some from = absurd (omega arith)
  last_from low (x ∷ []) some from = from.0
  last_from low (x ∷ y ∷ xs) some from = subst (λ n. low ≤ n) (sym (last_more x y xs)) (last_from low (y ∷ xs) (omega arith) from.1)

  first_from : (low : ℕ) (xs : List (Item T)) → 1 ≤ length xs → AreFrom low xs → low ≤ first_of xs
  first_from low [] some from = absurd (omega arith)
  first_from low (x ∷ xs) some from = from.0

  from_head : (xs : List (Item T)) → AreOrdered xs → AreFrom (first_of xs) xs
  from_head [] ordered = tt
  from_head (x ∷ xs) ordered = (omega arith, from_first x xs ordered)

  -- ---- segments in their order

  abbrev items : Segment T → List (Item T)
  items segment = segment.items

  pub last_rises : (segments : List (Segment T)) → AllByRecursion HasItems segments → AreOrdered (items_in segments) → IsNonDecreasingBy last_place segments
  last_rises [] have ordered i j d le lt = absurd (omega arith)
  last_rises (segment ∷ segments) have ordered zero zero d le lt = omega arith
  last_rises (segment ∷ segments) have ordered (suc i) zero d le lt = absurd (omega arith)
  last_rises (segment ∷ segments) have ordered zero (suc j) d le lt =
      last_from (last_place segment) (get_or segments j d).items (all_here HasItems segments j d (omega arith) have.1)
      (all_part (λ (item : Item T). last_place segment ≤ item.place) items segments j d (omega arith) (from_last segment.items (items_in segments) ordered))
  last_rises (segment ∷ segments) have ordered (suc i) (suc j) d le lt =
      last_rises segments have.1 (ordered-right segment.items (items_in segments) ordered) i j d (omega arith) (omega arith)

  first_below : (xs ys : List (Item T)) → 1 ≤ length xs → AreOrdered (xs ++ ys) → AreFrom (first_of xs) ys
  first_below [] ys some ordered = absurd (omega arith)
  first_below (x ∷ xs) ys some ordered = all_right (λ (item : Item T). x.place ≤ item.place) xs ys (from_first x (xs ++ ys) ordered)

  pub first_rises : (segments : List (Segment T)) → AllByRecursion HasItems segments → AreOrdered (items_in segments) → IsNonDecreasingBy first_place segments
  first_rises [] have ordered i j d le lt = absurd (omega arith)
  first_rises (segment ∷ segments) have ordered zero zero d le lt = omega arith
  first_rises (segment ∷ segments) have ordered (suc i) zero d le lt = absurd (omega arith)
  first_rises (segment ∷ segments) have ordered zero (suc j) d le lt =
      first_from (first_place segment) (get_or segments j d).items (all_here HasItems segments j d (omega arith) have.1)
      (all_part (λ (item : Item T). first_place segment ≤ item.place) items segments j d (omega arith) (first_below segment.items (items_in segments) have.0 ordered))
  first_rises (segment ∷ segments) have ordered (suc i) (suc j) d le lt =
      first_rises segments have.1 (ordered-right segment.items (items_in segments) ordered) i j d (omega arith) (omega arith)

  -- ---- what is left out has nothing

  abbrev is_from : ℕ → Item T → Bool
  is_from low item = leb low item.place

  abbrev is_up_to : ℕ → Item T → Bool
  is_up_to high item = leb item.place high

  none_before : (low high : ℕ) (xs : List (Item T)) → high < low → AreUpTo high xs → filter (is_from low) xs ≡ []
  none_before low high [] lt up = refl
  none_before low high (x ∷ xs) lt up =
      let no : leb low x.place ≡ false = grind (arith, nat_tests, up.0, lt) in
      cond-false (leb low x.place) (x ∷ filter (is_from low) xs) (filter (is_from low) xs) no ∙ none_before low high xs lt up.1

  none_after : (low high : ℕ) (xs : List (Item T)) → high < low → AreFrom low xs → filter (is_up_to high) xs ≡ []
  none_after low high [] lt from = refl
  none_after low high (x ∷ xs) lt from =
      let no : leb x.place high ≡ false = grind (arith, nat_tests, from.0, lt) in
      cond-false (leb x.place high) (x ∷ filter (is_up_to high) xs) (filter (is_up_to high) xs) no ∙ none_after low high xs lt from.1

  filter_both : (p : Item T → Bool) (xs ys : List (Item T)) → filter p (xs ++ ys) ≡ filter p xs ++ filter p ys
  filter_both p [] ys = refl
  filter_both p (x ∷ xs) ys = by (p x) (filter_both p xs ys)
    where
      by : (b : Bool) → filter p (xs ++ ys) ≡ filter p xs ++ filter p ys → cond b (x ∷ filter p (xs ++ ys)) (filter p (xs ++ ys)) ≡ cond b (x ∷ filter p xs) (filter p xs) ++ filter p ys
      by true rest = ap (λ rest. x ∷ rest) rest
      by false rest = rest

  pub drop_same : (low i : ℕ) (segments : List (Segment T)) → AreOrdered (items_in segments) → AllWithin (λ segment. ltb (last_place segment) low ≡ true) segments 0 i
      → filter (is_from low) (items_in (drop i segments)) ≡ filter (is_from low) (items_in segments)
  drop_same low zero segments ordered below = refl
  drop_same low (suc i) [] ordered below = refl
  drop_same low (suc i) (segment ∷ segments) ordered below =
      drop_same low i segments (ordered-right segment.items (items_in segments) ordered) (λ k d lo hi. below (suc k) d (omega arith) (omega arith))
      ∙ sym (filter_both (is_from low) segment.items (items_in segments)
      ∙ ap (λ (prefix : List (Item T)). prefix ++ filter (is_from low) (items_in segments))
      (none_before low (last_place segment) segment.items (ltb-true (last_place segment) low (below 0 segment (omega arith) (omega arith))) (up_to_last segment.items (ordered-left segment.items (items_in segments) ordered))))

  none_in : (high : ℕ) (segments : List (Segment T)) → AreOrdered (items_in segments) → AllWithin (λ segment. leb (first_place segment) high ≡ false) segments 0 (length segments)
      → filter (is_up_to high) (items_in segments) ≡ []
  none_in high [] ordered past = refl
  none_in high (segment ∷ segments) ordered past =
      filter_both (is_up_to high) segment.items (items_in segments)
      ∙ ap (λ (prefix : List (Item T)). prefix ++ filter (is_up_to high) (items_in segments))
      (none_after (first_place segment) high segment.items (let no = past 0 segment (omega arith) (omega arith) in grind (arith, nat_tests)) (from_head segment.items (ordered-left segment.items (items_in segments) ordered)))
      ∙ none_in high segments (ordered-right segment.items (items_in segments) ordered) (λ k d lo hi. past (suc k) d (omega arith) (omega arith))

  pub take_same : (high i : ℕ) (segments : List (Segment T)) → AreOrdered (items_in segments) → AllWithin (λ segment. leb (first_place segment) high ≡ false) segments i (length segments)
      → filter (is_up_to high) (items_in (take i segments)) ≡ filter (is_up_to high) (items_in segments)
  take_same high zero segments ordered past = sym (none_in high segments ordered past)
  take_same high (suc i) [] ordered past = refl
  take_same high (suc i) (segment ∷ segments) ordered past =
      filter_both (is_up_to high) segment.items (items_in (take i segments))
      ∙ ap (λ (rest : List (Item T)). filter (is_up_to high) segment.items ++ rest)
      (take_same high i segments (ordered-right segment.items (items_in segments) ordered) (λ k d lo hi. past (suc k) d (omega arith) (omega arith)))
      ∙ sym (filter_both (is_up_to high) segment.items (items_in segments))

  -- the items of some of the segments are in order
  pub drop_ordered : (i : ℕ) (segments : List (Segment T)) → AreOrdered (items_in segments) → AreOrdered (items_in (drop i segments))
  drop_ordered zero segments ordered = ordered
  drop_ordered (suc i) [] ordered = tt
  drop_ordered (suc i) (segment ∷ segments) ordered = drop_ordered i segments (ordered-right segment.items (items_in segments) ordered)

-- ---- a search among what passes

pub find_kept : {X : Type 0} (p q : X → Bool) → ((x : X) → q x ≡ false → p x ≡ false) → (xs : List X) → find p (filter q xs) ≡ find p xs
find_kept p q none [] = refl
find_kept p q none (x ∷ xs) =
    elim (cases_Bool (q x)) [
      | inl is ↦ ap (find p) (cond-true (q x) (x ∷ filter q xs) (filter q xs) is) ∙ ap (cond (p x) (Some x)) (find_kept p q none xs)
      | inr is ↦ ap (find p) (cond-false (q x) (x ∷ filter q xs) (filter q xs) is) ∙ find_kept p q none xs ∙ sym (cond-false (p x) (Some x) (find p xs) (none x is))
    ]

pub take_ordered : {T : Type 0} (i : ℕ) (segments : List (Segment T)) → AreOrdered (items_in segments) → AreOrdered (items_in (take i segments))
take_ordered i segments ordered =
    ordered-left (items_in (take i segments)) (items_in (drop i segments))
    (subst AreOrdered (ap items_in (sym (take-append-drop i segments)) ∙ flat_map-append (λ (segment : Segment _). segment.items) (take i segments) (drop i segments)) ordered)

-- what lies between two places is among the items of the segments that are left
module _ {T : Type 0} (low high : ℕ) (all some few : List (Item T)) (from : filter (λ (item : Item T). leb low item.place) some ≡ filter (λ (item : Item T). leb low item.place) all)
    (to : filter (λ (item : Item T). leb item.place high) few ≡ filter (λ (item : Item T). leb item.place high) some) where
  pub map_between : {Y : Type 0} (h : Item T → Option Y) → ((item : Item T) → leb low item.place ≡ false → h item ≡ None) → ((item : Item T) → leb item.place high ≡ false → h item ≡ None)
      → filter_map h few ≡ filter_map h all
  map_between h none_low none_high =
      sym (filter_map-filter (λ (item : Item T). leb item.place high) h none_high few) ∙ ap (filter_map h) to ∙ filter_map-filter (λ (item : Item T). leb item.place high) h none_high some
      ∙ sym (filter_map-filter (λ (item : Item T). leb low item.place) h none_low some) ∙ ap (filter_map h) from ∙ filter_map-filter (λ (item : Item T). leb low item.place) h none_low all

  pub find_between : (p : Item T → Bool) → ((item : Item T) → leb low item.place ≡ false → p item ≡ false) → ((item : Item T) → leb item.place high ≡ false → p item ≡ false)
      → find p few ≡ find p all
  find_between p none_low none_high =
      sym (find_kept p (λ (item : Item T). leb item.place high) none_high few) ∙ ap (find p) to ∙ find_kept p (λ (item : Item T). leb item.place high) none_high some
      ∙ sym (find_kept p (λ (item : Item T). leb low item.place) none_low some) ∙ ap (find p) from ∙ find_kept p (λ (item : Item T). leb low item.place) none_low all

pub not_before : (bucket series : ℕ) (item : Item Record) → leb bucket item.place ≡ false → is_item bucket series item ≡ false
not_before bucket series item before = grind (arith, nat_tests)

pub not_behind : (bucket series : ℕ) (item : Item Record) → leb item.place bucket ≡ false → is_item bucket series item ≡ false
not_behind bucket series item behind = grind (arith, nat_tests)

and_none : (a b c : Bool) → b ≡ false → a && (b && c) ≡ false
and_none true b c e = ap (λ b. b && c) e
and_none false b c e = refl

pub next_not_before : (series from to : ℕ) (item : Item Record) → leb from item.place ≡ false → is_next series from to item ≡ false
next_not_before series from to item before = ap (λ b. b && (leb item.place to && (item.series == series))) before

pub next_not_behind : (series from to : ℕ) (item : Item Record) → leb item.place to ≡ false → is_next series from to item ≡ false
next_not_behind series from to item behind = and_none (leb from item.place) (leb item.place to) (item.series == series) behind
