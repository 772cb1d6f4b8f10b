-- What is read by halves is what the whole list gives.
use Rattle.std.proofs.Common.{◌≡◌, ℕ, zero, suc, ◌+◌, ◌<◌, ◌≤◌, max, Bool, true, false, cond, leb, ltb, ◌&&◌, ◌==◌, ◌⊎◌, List, [], ◌∷◌, ◌++◌, length, take, drop, get_or, flat_map, Option, Some, None, inl, inr, subst, refl, sym, ap, ◌∙◌, append_assoc, append-nil, arith}
use Rattle.std.specs.List.{AllWithin, filter, filter_map, cons_option, find}
use Rattle.std.specs.List.Sorted.{IsPartitionedBy}
use Rattle.std.proofs.lemmas.Bool.{cases_Bool, cond-true, cond-false, leb-true, leb-false, ltb-true, ltb-false}
use Rattle.std.proofs.lemmas.Bool.Decides.{nat_tests}
use Rattle.std.proofs.lemmas.List.{take_more, take-append-drop}
use Rattle.std.proofs.lemmas.List.Concat.{flat_map-append}
use Rattle.std.proofs.lemmas.List.Elements.{filter_map-append}
use Rattle.std.specs.Option.{option_map}
use Rattle.fixed_num.specs.declared.units.Record.{Record}
use Rattle.beat_tiers.specs.declared.item.Item.{Item}
use Rattle.beat_tiers.specs.declared.item.Stepped.{Stepped}
use Rattle.beat_tiers.specs.declared.parts.Segment.{Segment}
use Rattle.beat_tiers.specs.Searching.{is_before}
use Rattle.beat_tiers.specs.declared.parts.KeptItems.{KeptItems}
use Rattle.beat_tiers.specs.Segments.{items_of}
use Rattle.beat_tiers.specs.State.{is_item, point_at}
use Rattle.beat_tiers.specs.Tiers.{AreOrdered}
use Rattle.beat_tiers.proofs.Ordered.{Precedes, each-precedes, first-precedes, ordered-left, ordered-right, ordered-tail}

-- the parts of one more element
pub flat_map-take : {X A : Type 0} (f : X → List A) (xs : List X) (i : ℕ) (x : X) → i < length xs → x ≡ get_or xs i x → flat_map f (take (i + 1) xs) ≡ flat_map f (take i xs) ++ f x
flat_map-take f xs i x lt is =
    ap (flat_map f) (take_more xs i x lt) ∙ flat_map-append f (take i xs) (get_or xs i x ∷ []) ∙ ap (λ zs. flat_map f (take i xs) ++ zs) (append-nil (f (get_or xs i x)) ∙ ap f (sym is))

module _ {X : Type 0} (p : X → Bool) where
  filter-in : (x : X) (xs : List X) → p x ≡ true → filter p (x ∷ xs) ≡ x ∷ filter p xs
  filter-in x xs is = cond-true (p x) (x ∷ filter p xs) (filter p xs) is

  filter-out : (x : X) (xs : List X) → p x ≡ false → filter p (x ∷ xs) ≡ filter p xs
  filter-out x xs is = cond-false (p x) (x ∷ filter p xs) (filter p xs) is

  -- what is from a place on, where what is before it fails, and the rest passes
  pub drop-filter : (i : ℕ) (xs : List X) → i ≤ length xs → AllWithin (λ x. p x ≡ false) xs 0 i → AllWithin (λ x. p x ≡ true) xs i (length xs) → drop i xs ≡ filter p xs
  drop-filter zero [] le below past = refl
  drop-filter (suc i) [] le below past = refl
  drop-filter zero (x ∷ xs) le below past =
      sym (filter-in x xs (past 0 x (omega arith) (omega arith))
      ∙ ap (λ rest. x ∷ rest) (sym (drop-filter zero xs (omega arith) (λ k d lo hi. absurd (omega arith)) (λ k d lo hi. past (suc k) d (omega arith) (omega arith)))))
  drop-filter (suc i) (x ∷ xs) le below past =
      drop-filter i xs (omega arith) (λ k d lo hi. below (suc k) d (omega arith) (omega arith)) (λ k d lo hi. past (suc k) d (omega arith) (omega arith))
      ∙ sym (filter-out x xs (below 0 x (omega arith) (omega arith)))

  -- what is up to a place, where what is before it passes, and the rest fails
  pub take-filter : (i : ℕ) (xs : List X) → i ≤ length xs → AllWithin (λ x. p x ≡ true) xs 0 i → AllWithin (λ x. p x ≡ false) xs i (length xs) → take i xs ≡ filter p xs
  take-filter zero [] le below past = refl
  take-filter (suc i) [] le below past = refl
  take-filter zero (x ∷ xs) le below past =
      take-filter zero xs (omega arith) (λ k d lo hi. absurd (omega arith)) (λ k d lo hi. past (suc k) d (omega arith) (omega arith))
      ∙ sym (filter-out x xs (past 0 x (omega arith) (omega arith)))
  take-filter (suc i) (x ∷ xs) le below past =
      ap (λ rest. x ∷ rest) (take-filter i xs (omega arith) (λ k d lo hi. below (suc k) d (omega arith) (omega arith)) (λ k d lo hi. past (suc k) d (omega arith) (omega arith)))
      ∙ sym (filter-in x xs (below 0 x (omega arith) (omega arith)))

  -- what fails gives nothing, so it may be left out
  pub filter_map-filter : {Y : Type 0} (h : X → Option Y) → ((x : X) → p x ≡ false → h x ≡ None) → (xs : List X) → filter_map h (filter p xs) ≡ filter_map h xs
  filter_map-filter h none [] = refl
  filter_map-filter h none (x ∷ xs) =
      elim (cases_Bool (p x)) [
        | inl is ↦ ap (filter_map h) (filter-in x xs is) ∙ ap (cons_option (h x)) (filter_map-filter h none xs)
        | inr is ↦ ap (filter_map h) (filter-out x xs is) ∙ filter_map-filter h none xs ∙ sym (ap (λ y. cons_option y (filter_map h xs)) (none x is))
      ]

  pub find-append : (xs ys : List X) → find p xs ≡ None → find p (xs ++ ys) ≡ find p ys
  find-append [] ys none = refl
  find-append (x ∷ xs) ys none =
      elim (cases_Bool (p x)) [
        | inl is ↦ absurd (let e : Some x ≡ None = sym (cond-true (p x) (Some x) (find p xs) is) ∙ none in cc)
        | inr is ↦ cond-false (p x) (Some x) (find p (xs ++ ys)) is ∙ find-append xs ys (sym (cond-false (p x) (Some x) (find p xs) is) ∙ none)
      ]

  pub find-left : (xs ys : List X) (x : X) → find p xs ≡ Some x → find p (xs ++ ys) ≡ Some x
  find-left [] ys x there = absurd cc
  find-left (z ∷ xs) ys x there =
      elim (cases_Bool (p z)) [
        | inl is ↦ cond-true (p z) (Some z) (find p (xs ++ ys)) is ∙ sym (cond-true (p z) (Some z) (find p xs) is) ∙ there
        | inr is ↦ cond-false (p z) (Some z) (find p (xs ++ ys)) is ∙ find-left xs ys x (sym (cond-false (p z) (Some z) (find p xs) is) ∙ there)
      ]

  pub find-none : (xs : List X) → AllWithin (λ x. p x ≡ false) xs 0 (length xs) → find p xs ≡ None
  find-none [] none = refl
  find-none (x ∷ xs) none =
      cond-false (p x) (Some x) (find p xs) (none 0 x (omega arith) (omega arith))
      ∙ find-none xs (λ k d lo hi. none (suc k) d (omega arith) (omega arith))

  -- a test among what passes another
  pub find-filter : (q : X → Bool) (xs : List X) → find p (filter q xs) ≡ find (λ x. q x && p x) xs
  find-filter q [] = refl
  find-filter q (x ∷ xs) = by (q x) (find-filter q xs)
    where
      by : (b : Bool) → find p (filter q xs) ≡ find (λ x. q x && p x) xs → find p (cond b (x ∷ filter q xs) (filter q xs)) ≡ cond (b && p x) (Some x) (find (λ x. q x && p x) xs)
      by true rest = ap (cond (p x) (Some x)) rest
      by false rest = rest

  -- the parts before a place have none, and that at the place has one
  pub find-part : {S : Type 0} (f : S → List X) (ss : List S) (i : ℕ) (s : S) (x : X) → i < length ss → s ≡ get_or ss i s → find p (flat_map f (take i ss)) ≡ None
      → find p (f s) ≡ Some x → find p (flat_map f ss) ≡ Some x
  find-part f ss i s x lt is none there =
      ap (find p) (ap (flat_map f) (sym (take-append-drop (i + 1) ss)) ∙ flat_map-append f (take (i + 1) ss) (drop (i + 1) ss))
      ∙ find-left (flat_map f (take (i + 1) ss)) (flat_map f (drop (i + 1) ss)) x
      (ap (find p) (flat_map-take f ss i s lt is) ∙ find-append (flat_map f (take i ss)) (f s) none ∙ there)

-- ---- points between moments

test-past : {Y : Type 0} (a b c d : Bool) (y : Y) → d ≡ false → cond (((a && b) && c) && d) (Some y) None ≡ None
test-past false b c d y e = refl
test-past true false c d y e = refl
test-past true true false d y e = refl
test-past true true true false y e = refl
test-past true true true true y e = absurd cc

test-early : {Y : Type 0} (a b c d : Bool) (y : Y) → (b ≡ false) ⊎ (c ≡ false) → cond (((a && b) && c) && d) (Some y) None ≡ None
test-early false b c d y e = refl
test-early true false c d y e = refl
test-early true true false d y e = refl
test-early true true true d y (inl e) = absurd cc
test-early true true true d y (inr e) = absurd cc

pub point-past : (floor series from to : ℕ) (item : Item Stepped) → leb item.place to ≡ false → point_at floor series from to item ≡ None
point-past floor series from to item past = test-past (item.series == series) (leb floor item.place) (leb from item.place) (leb item.place to) _ past

one-fails : (floor from place : ℕ) → leb (max floor from) place ≡ false → (leb floor place ≡ false) ⊎ (leb from place ≡ false)
one-fails floor from place fails =
    elim (cases_Bool (leb floor place)) [
      | inr fails_first ↦ inl fails_first
      | inl holds ↦ elim (cases_Bool (leb from place)) [
        | inr fails_second ↦ inr fails_second
        | inl also ↦ absurd (omega (arith, leb-false (max floor from) place fails, leb-true floor place holds, leb-true from place also))
      ]
    ]

pub point-early : (floor series from to : ℕ) (item : Item Stepped) → leb (max floor from) item.place ≡ false → point_at floor series from to item ≡ None
point-early floor series from to item early = test-early (item.series == series) (leb floor item.place) (leb from item.place) (leb item.place to) _ (one-fails floor from item.place early)

-- what lies between two places has all points between the moments
pub points-between : (floor series from to : ℕ) (items : List (Item Stepped)) → filter_map (point_at floor series from to) (filter (λ (item : Item Stepped). leb item.place to) (filter (λ (item : Item Stepped). leb (max floor from) item.place) items)) ≡ filter_map (point_at floor series from to) items
points-between floor series from to items =
    filter_map-filter (λ (item : Item Stepped). leb item.place to) (point_at floor series from to) (λ item past. point-past floor series from to item past) (filter (λ (item : Item Stepped). leb (max floor from) item.place) items)
    ∙ filter_map-filter (λ (item : Item Stepped). leb (max floor from) item.place) (point_at floor series from to) (λ item early. point-early floor series from to item early) items

-- what a list gives goes behind what a part of it gave
pub filter_map-more : {X Y : Type 0} (h : X → Option Y) (old mid new : List Y) (xs ys : List X) → mid ≡ old ++ filter_map h xs → new ≡ mid ++ filter_map h ys → new ≡ old ++ filter_map h (xs ++ ys)
filter_map-more h old mid new xs ys m n =
    n ∙ ap (λ zs. zs ++ filter_map h ys) m ∙ append_assoc old (filter_map h xs) (filter_map h ys) ∙ ap (λ zs. old ++ zs) (sym (filter_map-append h xs ys))

-- all items of segments, part by part
pub items-split : {T : Type 0} (segments : KeptItems T) (a b : List (Segment T)) → a ++ b ≡ segments.sealed
    → items_of segments ≡ flat_map (λ (segment : Segment T). segment.items) a ++ (flat_map (λ (segment : Segment T). segment.items) b ++ segments.unsealed)
items-split {T} segments a b e =
    let items : Segment T → List (Item T) = λ segment. segment.items in
    ap (λ s. flat_map items s ++ segments.unsealed) (sym e)
    ∙ ap (λ s. s ++ segments.unsealed) (flat_map-append items a b)
    ∙ append_assoc (flat_map items a) (flat_map items b) segments.unsealed

-- each part of ordered items is ordered
pub parts-ordered : {T : Type 0} (segments : KeptItems T) (a b : List (Segment T)) → a ++ b ≡ segments.sealed → AreOrdered (items_of segments)
    → AreOrdered (flat_map (λ (segment : Segment T). segment.items) a) × AreOrdered (flat_map (λ (segment : Segment T). segment.items) b) × AreOrdered segments.unsealed
parts-ordered {T} segments a b e o =
    let items : Segment T → List (Item T) = λ segment. segment.items in
    let split : AreOrdered (flat_map items a ++ (flat_map items b ++ segments.unsealed)) = subst (λ (zs : List (Item T)). AreOrdered zs) (items-split segments a b e) o in
    let behind : AreOrdered (flat_map items b ++ segments.unsealed) = ordered-right (flat_map items a) (flat_map items b ++ segments.unsealed) split in
    (ordered-left (flat_map items a) (flat_map items b ++ segments.unsealed) split, ordered-left (flat_map items b) segments.unsealed behind, ordered-right (flat_map items b) segments.unsealed behind)

-- ---- the record of a bucket's series

module _ (bucket series : ℕ) where
  before-not : (x : Item Record) → is_before bucket series x ≡ true → is_item bucket series x ≡ false
  before-not x before = grind (arith, nat_tests)

  before-back : (x y : Item Record) → Precedes x y → is_before bucket series y ≡ true → is_before bucket series x ≡ true
  before-back x y (inl less) before = grind (arith, nat_tests)
  before-back x y (inr same) before = grind (arith, nat_tests, same.0, same.1)

  after-not : (x y : Item Record) → is_before bucket series x ≡ false → Precedes x y → is_item bucket series y ≡ false
  after-not x y behind (inl less) = grind (arith, nat_tests)
  after-not x y behind (inr same) = grind (arith, nat_tests, same.0, same.1)

  pub before-partitioned : (xs : List (Item Record)) → AreOrdered xs → IsPartitionedBy (is_before bucket series) xs
  before-partitioned xs o = λ i j d le lt before.
      elim (cases_Bool (ltb i j)) [
        | inl less ↦ before-back (get_or xs i d) (get_or xs j d) (each-precedes xs o i j d (ltb-true i j less) lt) before
        | inr same ↦ let e : i ≡ j = omega (arith, ltb-false i j same) in subst (λ k. is_before bucket series (get_or xs k d) ≡ true) (sym e) before
      ]

  -- what is before the place is not found, and if the first item from there on is not the one, none is
  pub find-from : (i : ℕ) (xs : List (Item Record)) → AreOrdered xs → i ≤ length xs → AllWithin (λ x. is_before bucket series x ≡ true) xs 0 i → AllWithin (λ x. is_before bucket series x ≡ false) xs i (length xs)
      → find (is_item bucket series) (take 1 (drop i xs)) ≡ find (is_item bucket series) xs
  find-from zero [] o le below past = refl
  find-from (suc i) [] o le below past = refl
  find-from zero (x ∷ xs) o le below past =
      sym (ap (λ rest. cond (is_item bucket series x) (Some x) rest)
      (find-none (is_item bucket series) xs (λ k d lo hi. after-not x (get_or xs k d) (past 0 x (omega arith) (omega arith)) (first-precedes x xs o k d hi))))
  find-from (suc i) (x ∷ xs) o le below past =
      find-from i xs (ordered-tail x xs o) (omega arith) (λ k d lo hi. below (suc k) d (omega arith) (omega arith)) (λ k d lo hi. past (suc k) d (omega arith) (omega arith))
      ∙ sym (cond-false (is_item bucket series x) (Some x) (find (is_item bucket series) xs) (before-not x (below 0 x (omega arith) (omega arith))))

-- ---- finding part by part

module _ {X Y : Type 0} (p : X → Bool) (v : X → Y) where
  pub none-found : (found : Option X) → option_map v found ≡ None → found ≡ None
  none-found None e = refl
  none-found (Some x) e = absurd cc

  pub found-left : (xs ys : List X) (y : Y) → option_map v (find p xs) ≡ Some y → option_map v (find p (xs ++ ys)) ≡ Some y
  found-left [] ys y there = absurd cc
  found-left (x ∷ xs) ys y there =
      elim (cases_Bool (p x)) [
        | inl is ↦ ap (option_map v) (cond-true (p x) (Some x) (find p (xs ++ ys)) is ∙ sym (cond-true (p x) (Some x) (find p xs) is)) ∙ there
        | inr is ↦ ap (option_map v) (cond-false (p x) (Some x) (find p (xs ++ ys)) is)
            ∙ found-left xs ys y (ap (option_map v) (sym (cond-false (p x) (Some x) (find p xs) is)) ∙ there)
      ]

  pub found-right : (xs ys : List X) (y : Option Y) → find p xs ≡ None → option_map v (find p ys) ≡ y → option_map v (find p (xs ++ ys)) ≡ y
  found-right xs ys y none there = ap (option_map v) (find-append p xs ys none) ∙ there

  -- the parts before a place have none, and that at the place has one
  pub found-part : {S : Type 0} (f : S → List X) (ss : List S) (i : ℕ) (s : S) (y : Y) → i < length ss → s ≡ get_or ss i s → find p (flat_map f (take i ss)) ≡ None
      → option_map v (find p (f s)) ≡ Some y → option_map v (find p (flat_map f ss)) ≡ Some y
  found-part f ss i s y lt is none there =
      let parts : flat_map f ss ≡ flat_map f (take (i + 1) ss) ++ flat_map f (drop (i + 1) ss) =
      ap (flat_map f) (sym (take-append-drop (i + 1) ss)) ∙ flat_map-append f (take (i + 1) ss) (drop (i + 1) ss) in
      ap (λ zs. option_map v (find p zs)) parts
      ∙ found-left (flat_map f (take (i + 1) ss)) (flat_map f (drop (i + 1) ss)) y
      (ap (λ zs. option_map v (find p zs)) (flat_map-take f ss i s lt is) ∙ found-right (flat_map f (take i ss)) (f s) (Some y) none there)
