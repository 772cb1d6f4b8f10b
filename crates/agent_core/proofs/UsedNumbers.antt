-- Numbers in order: what they pick of a list, the place of each, and that a list in order has the numbers it had.
use Rattle.std.proofs.Common.{◌≡◌, ℕ, zero, suc, ◌==◌, ◌+◌, ◌-◌, ◌<◌, ◌≤◌, Bool, true, false, ◌||◌, eqb, ltb, List, [], ◌∷◌, ◌++◌, length, map, take, get_or, slice_get, Option, Some, IfSome, nat_cmp, Less, ◌⊎◌, inl, inr, refl, sym, ap, subst, ◌∙◌, arith, true≢false}
use Rattle.std.specs.List.{cons_option, dedup, dedup_from, filter_map, list_any, AllByRecursion, AllWithin}
use Rattle.std.specs.List.Sorted.{IsPermutation, IsStrictlySortedBy}
use Rattle.std.proofs.lemmas.Bool.{cases_Bool, cases_lt, cond-true, cond-false, eq-eqb, eqb-true, false_from_ne_true, ltb-false, ltb-true, ne_eqb, or_cases, or_from, or_left, or_right}
use Rattle.std.proofs.lemmas.Cmp.{ranked}
use Rattle.std.proofs.lemmas.List.{map-append, take_more}
use Rattle.std.proofs.lemmas.List.Elements.{filter_map-append}
use Rattle.std.proofs.lemmas.List.Sorted.{list_any-IsPermutation}
use Rattle.list_lemmas.proofs.Every.{all-append}
use Rattle.replication.specs.Places.{count_from, place, select}
use Rattle.replication.proofs.Copies.{all-map}
use Rattle.link_frames.proofs.PlacesLaw.{place-le}
use Rattle.agent_core.specs.Used.{has, items_at, Rise}
use Rattle.agent_core.proofs.NamedLemmas.{item-there}

-- ---- what numbers have

-- all numbers among some that have what the others have
has-all : (P : ℕ → Type 0) (ns : List ℕ) (n : ℕ) → AllByRecursion P ns → has ns n ≡ true → P n
has-all P [] n all is = absurd cc
has-all P (m ∷ ns) n all is =
    elim (or_cases (m == n) (has ns n) is) [
      | inl here ↦ subst P (eqb-true m n here) all.0
      | inr later ↦ has-all P ns n all.1 later
    ]

has-itself : (ns : List ℕ) → AllByRecursion (λ n. has ns n ≡ true) ns
has-itself [] = tt
has-itself (m ∷ ns) = (or_left (m == m) (has ns m) (eq-eqb m m refl), all-map (λ n. has ns n ≡ true) (λ n. has (m ∷ ns) n ≡ true) ns (λ n is. or_right (m == n) (has ns n) is) (has-itself ns))

pub all-same : (P : ℕ → Type 0) (ns ms : List ℕ) → has ns ≡ has ms → AllByRecursion P ms → AllByRecursion P ns
all-same P ns ms same all = all-map (λ n. has ns n ≡ true) P ns (λ n is. has-all P ms n all (sym (ap (λ (test : ℕ → Bool). test n) same) ∙ is)) (has-itself ns)

any-has : (p : ℕ → Bool) (ns : List ℕ) (n : ℕ) → has ns n ≡ true → p n ≡ true → list_any p ns ≡ true
any-has p [] n is passes = absurd cc
any-has p (m ∷ ns) n is passes =
    elim (or_cases (m == n) (has ns n) is) [
      | inl here ↦ or_left (p m) (list_any p ns) (ap p (eqb-true m n here) ∙ passes)
      | inr later ↦ or_right (p m) (list_any p ns) (any-has p ns n later passes)
    ]

any-among : (p : ℕ → Bool) (ns ms : List ℕ) → AllByRecursion (λ n. has ms n ≡ true) ns → list_any p ns ≡ true → list_any p ms ≡ true
any-among p [] ms all is = absurd cc
any-among p (n ∷ ns) ms all is =
    elim (or_cases (p n) (list_any p ns) is) [
      | inl here ↦ any-has p ms n all.0 here
      | inr later ↦ any-among p ns ms all.1 later
    ]

-- numbers that have the same pass a test alike
pub any-same : (p : ℕ → Bool) (ns ms : List ℕ) → has ns ≡ has ms → list_any p ns ≡ list_any p ms
any-same p ns ms same =
    elim (cases_Bool (list_any p ms)) [
      | inl some ↦ any-among p ms ns (all-same (λ n. has ns n ≡ true) ms ns (sym same) (has-itself ns)) some ∙ sym some
      | inr none ↦ false_from_ne_true (list_any p ns) (λ some. true≢false (sym (any-among p ns ms (all-same (λ n. has ms n ≡ true) ns ms same (has-itself ms)) some) ∙ none)) ∙ sym none
    ]

-- ---- in order, each once
has-twice : (a rest : Bool) → (a || rest) ≡ (a || (a || rest))
has-twice true rest = refl
has-twice false rest = refl

has-dedup_from : (k : ℕ) (ns : List ℕ) (n : ℕ) → has (dedup_from eqb k ns) n ≡ has (k ∷ ns) n
has-dedup_from k [] n = refl
has-dedup_from k (m ∷ ns) n =
    elim (cases_Bool (eqb m k)) [
      | inl same ↦ ap (λ (some : List ℕ). has some n) (cond-true (eqb m k) (dedup_from eqb k ns) (k ∷ dedup_from eqb m ns) same) ∙ has-dedup_from k ns n
          ∙ has-twice (k == n) (has ns n) ∙ ap (λ (j : ℕ). (k == n) || ((j == n) || has ns n)) (sym (eqb-true m k same))
      | inr other ↦ ap (λ (some : List ℕ). has some n) (cond-false (eqb m k) (dedup_from eqb k ns) (k ∷ dedup_from eqb m ns) other) ∙ ap (λ (rest : Bool). (k == n) || rest) (has-dedup_from m ns n)
    ]

has-dedup : (ns : List ℕ) (n : ℕ) → has (dedup eqb ns) n ≡ has ns n
has-dedup [] n = refl
has-dedup (m ∷ ns) n = has-dedup_from m ns n

-- sorted, and each once, they have what they had
pub has-sorted : (ns sorted ordered : List ℕ) → IsPermutation ns sorted → ordered ≡ dedup eqb sorted → has ordered ≡ has ns
has-sorted ns sorted ordered moved is = λ i n. each n i
  where
    each : (n : ℕ) → has ordered n ≡ has ns n
    each n = ap (λ (some : List ℕ). has some n) is ∙ has-dedup sorted n ∙ sym (list_any-IsPermutation (λ m. m == n) ns sorted moved)

-- ---- the numbers that pass a test
abbrev Rising : List ℕ → Type 0
Rising [] = Unit {0}
Rising (n ∷ ns) = AllByRecursion (λ m. n < m) ns × Rising ns

rising-of : (ns : List ℕ) → Rise ns → Rising ns
unfolding IsStrictlySortedBy
rising-of [] rise = tt
rising-of (n ∷ ns) rise = (all-map (λ m. nat_cmp n m ≡ Less) (λ m. n < m) ns (λ m less. ranked n m Less (sym less)) rise.0, rising-of ns rise.1)

-- those from n on
record Those (test : ℕ → Bool) (n : ℕ) (ns : List ℕ) : Type 0 where
  rise : Rising ns
  from : AllByRecursion (λ m. n ≤ m) ns
  each : (k : ℕ) → n ≤ k → has ns k ≡ test k

those-of : (ns : List ℕ) → Rise ns → Those (has ns) 0 ns
those-of ns rise = record { rise = rising-of ns rise; from = any ns; each = λ k le. refl }
  where
    any : (ns : List ℕ) → AllByRecursion (λ m. 0 ≤ m) ns
    any [] = tt
    any (n ∷ ns) = (omega arith, any ns)

none-below : (n : ℕ) (ns : List ℕ) → AllByRecursion (λ m. n < m) ns → has ns n ≡ false
none-below n [] above = refl
none-below n (m ∷ ns) above = or_from (m == n) (has ns n) (ne_eqb m n (λ e. omega (arith, e, above.0))) (none-below n ns above.1)

-- n is the first of them
record IsFirst (test : ℕ → Bool) (n : ℕ) (ns : List ℕ) : Type 0 where
  rest : List ℕ
  is : ns ≡ n ∷ rest
  passes : test n ≡ true
  later : Those test (n + 1) rest

-- n is none of them
record IsNone (test : ℕ → Bool) (n : ℕ) (ns : List ℕ) : Type 0 where
  fails : test n ≡ false
  later : Those test (n + 1) ns

splits : (test : ℕ → Bool) (n : ℕ) (ns : List ℕ) → Those test n ns → IsFirst test n ns ⊎ IsNone test n ns
splits test n [] those = inr (record { fails = sym (those.each n (omega arith)); later = record { rise = tt; from = tt; each = λ k le. those.each k (omega (arith, le)) } })
splits test n (m ∷ ns) those =
    elim (cases_lt n m) [
      | inl lt ↦
          let above : AllByRecursion (λ k. n < k) (m ∷ ns) = (lt, all-map (λ k. m < k) (λ k. n < k) ns (λ k less. omega (arith, less, lt)) those.rise.0) in
          inr (record {
            fails = sym (those.each n (omega arith)) ∙ none-below n (m ∷ ns) above;
            later = record { rise = those.rise; from = all-map (λ k. n < k) (λ k. n + 1 ≤ k) (m ∷ ns) (λ k less. omega (arith, less)) above; each = λ k le. those.each k (omega (arith, le)) };
          })
      | inr le ↦
          let same : m ≡ n = omega (arith, le, those.from.0) in
          inl (record {
            rest = ns;
            is = ap (λ (k : ℕ). k ∷ ns) same;
            passes = sym (those.each n (omega arith)) ∙ or_left (m == n) (has ns n) (eq-eqb m n same);
            later = record {
              rise = those.rise.1;
              from = all-map (λ k. m < k) (λ k. n + 1 ≤ k) ns (λ k less. omega (arith, less, same)) those.rise.0;
              each = λ k past. sym (ap (λ (b : Bool). b || has ns k) (ne_eqb m k (λ e. omega (arith, e, same, past)))) ∙ those.each k (omega (arith, past));
            };
          })
    ]

-- ---- what they pick is what stays
next-item : {X : Type 0} (x : X) (xs : List X) (n : ℕ) (ns : List ℕ) → AllByRecursion (λ m. n + 1 ≤ m) ns
    → filter_map (λ k. slice_get (x ∷ xs) (k - n)) ns ≡ filter_map (λ k. slice_get xs (k - (n + 1))) ns
next-item x xs n [] from = refl
next-item {X} x xs n (m ∷ ns) from =
    let at : m - n ≡ suc (m - (n + 1)) = omega (arith, from.0) in
    let here : slice_get (x ∷ xs) (m - n) ≡ slice_get xs (m - (n + 1)) = ap (slice_get (x ∷ xs)) at in
    let rest = next-item x xs n ns from.1 in
    λ i. cons_option (here i) (rest i)

none-there : {X : Type 0} (n : ℕ) (ns : List ℕ) → filter_map (λ k. slice_get {X = X} [] (k - n)) ns ≡ []
none-there n [] = refl
none-there n (m ∷ ns) = none-there n ns

picks-from : {X : Type 0} (test : ℕ → Bool) (n : ℕ) (xs : List X) (ns : List ℕ) → Those test n ns → filter_map (λ k. slice_get xs (k - n)) ns ≡ select test n xs
picks-from {X} test n [] ns those = none-there {X = X} n ns
picks-from {X} test n (x ∷ xs) ns those =
    elim (splits test n ns those) [
      | inl first ↦
          let at : n - n ≡ 0 = omega arith in
          let rest : filter_map (λ k. slice_get (x ∷ xs) (k - n)) first.rest ≡ select test (n + 1) xs = next-item x xs n first.rest first.later.from ∙ picks-from test (n + 1) xs first.rest first.later in
          ap (filter_map (λ k. slice_get (x ∷ xs) (k - n))) first.is
          ∙ (λ i. cons_option (slice_get (x ∷ xs) (at i)) (rest i))
          ∙ sym (cond-true (test n) (x ∷ select test (n + 1) xs) (select test (n + 1) xs) first.passes)
      | inr none ↦
          next-item x xs n ns none.later.from ∙ picks-from test (n + 1) xs ns none.later
          ∙ sym (cond-false (test n) (x ∷ select test (n + 1) xs) (select test (n + 1) xs) none.fails)
    ]

pub picks : {X : Type 0} (xs : List X) (ns : List ℕ) → Rise ns → items_at xs ns ≡ select (has ns) 0 xs
picks {X} xs ns rise =
    let from_0 : (k : ℕ) → k ≡ k - 0 = λ k. omega arith in
    let same : slice_get xs ≡ (λ (k : ℕ). slice_get xs (k - 0)) = λ i k. slice_get xs (from_0 k i) in
    ap (λ (at : ℕ → Option X). filter_map at ns) same ∙ picks-from (has ns) 0 xs ns (those-of ns rise)

-- ---- how many are below a number
none-counted : (n i : ℕ) (ns : List ℕ) → AllByRecursion (λ m. n ≤ m) ns → i ≤ length ns → ((k : ℕ) → k < i → get_or ns k 0 < n + 0) → 0 ≡ i
none-counted n zero ns from le below = refl
none-counted n (suc i) [] from le below = absurd (omega (arith, le))
none-counted n (suc i) (m ∷ ns) from le below =
    let low : m < n + 0 = below 0 (omega arith) in
    absurd (omega (arith, low, from.0))

-- the first i are below n + d, and the others are not
record IsCount (n d i : ℕ) (ns : List ℕ) : Type 0 where
  within : i ≤ length ns
  below : (k : ℕ) → k < i → get_or ns k 0 < n + d
  past : (k : ℕ) → i ≤ k → k < length ns → n + d ≤ get_or ns k 0

counts : (test : ℕ → Bool) (n d i : ℕ) (ns : List ℕ) → Those test n ns → IsCount n d i ns → count_from test n d ≡ i
counts test n zero i ns those count = none-counted n i ns those.from count.within count.below
counts test n (suc d) i ns those count =
    elim (splits test n ns those) [
      | inl first ↦ cond-true (test n) (suc (count_from test (n + 1) d)) (count_from test (n + 1) d) first.passes ∙ more first (λ i count. counts test (n + 1) d i first.rest first.later count) i (subst (IsCount n (suc d) i) first.is count)
      | inr none ↦ cond-false (test n) (suc (count_from test (n + 1) d)) (count_from test (n + 1) d) none.fails
          ∙ counts test (n + 1) d i ns none.later (record { within = count.within; below = λ k lt. omega (arith, count.below k lt); past = λ k le lt. omega (arith, count.past k le lt) })
    ]
  where
    more : (first : IsFirst test n ns) → ((i : ℕ) → IsCount (n + 1) d i first.rest → count_from test (n + 1) d ≡ i) → (i : ℕ) → IsCount n (suc d) i (n ∷ first.rest) → suc (count_from test (n + 1) d) ≡ i
    more first rest zero count = absurd (let high : n + suc d ≤ n = count.past 0 (omega arith) (omega arith) in omega (arith, high))
    more first rest (suc i) count =
        ap suc (rest i (record {
          within = omega (arith, count.within);
          below = λ k lt. let low : get_or first.rest k 0 < n + suc d = count.below (suc k) (omega (arith, lt)) in omega (arith, low);
          past = λ k le lt. let high : n + suc d ≤ get_or first.rest k 0 = count.past (suc k) (omega (arith, le)) (omega (arith, lt)) in omega (arith, high);
        }))

-- what a search by halves finds is the place of the number
pub place-found : (ns : List ℕ) (number i : ℕ) → Rise ns → i ≤ length ns → AllWithin (λ m. ltb m number ≡ true) ns 0 i → AllWithin (λ m. ltb m number ≡ false) ns i (length ns) → i ≡ place (has ns) number
place-found ns number i rise within below past =
    sym (counts (has ns) 0 number i ns (those-of ns rise) (record {
      within = within;
      below = λ k lt. omega (arith, ltb-true (get_or ns k 0) number (below k 0 (omega arith) lt));
      past = λ k le lt. omega (arith, ltb-false (get_or ns k 0) number (past k 0 le lt));
    }))

pub place-bound : (ns : List ℕ) (number i : ℕ) → i ≡ place (has ns) number → i ≤ number
place-bound ns number i is = omega (arith, is, place-le (has ns) 0 number)

-- ---- one more number
module _ {A : Type 0} (xs : List A) (ns : List ℕ) (i n : ℕ) (lt : i < length ns) (at : n ≡ get_or ns i n) (within : n < length xs) where
  items-more : (x : A) → slice_get xs n ≡ Some x → items_at xs (take (i + 1) ns) ≡ items_at xs (take i ns) ++ x ∷ []
  items-more x there =
      let next : take (i + 1) ns ≡ take i ns ++ n ∷ [] = take_more ns i n lt ∙ ap (λ (m : ℕ). take i ns ++ m ∷ []) (sym at) in
      ap (items_at xs) next ∙ filter_map-append (slice_get xs) (take i ns) (n ∷ []) ∙ ap (λ (found : Option A). items_at xs (take i ns) ++ cons_option found []) there

  -- what is made of the items
  pub made-more : {B : Type 0} (f : A → B) (y : B) (old new : List B) → IfSome (slice_get xs n) (λ x. y ≡ f x) → new ≡ old ++ y ∷ [] → old ≡ map f (items_at xs (take i ns)) → new ≡ map f (items_at xs (take (i + 1) ns))
  made-more f y old new is pushed before =
      let there = item-there xs n within in
      let y_is : y ≡ f there.0 = subst (λ (found : Option A). IfSome found (λ x. y ≡ f x)) there.1 is in
      pushed ∙ (λ j. before j ++ y_is j ∷ []) ∙ sym (map-append f (items_at xs (take i ns)) (there.0 ∷ [])) ∙ ap (map f) (sym (items-more there.0 there.1))

  -- what holds of each
  pub holds-more : (P : A → Type 0) → IfSome (slice_get xs n) P → AllByRecursion P (items_at xs (take i ns)) → AllByRecursion P (items_at xs (take (i + 1) ns))
  holds-more P is before =
      let there = item-there xs n within in
      let one : P there.0 = subst (λ (found : Option A). IfSome found P) there.1 is in
      subst (AllByRecursion P) (sym (items-more there.0 there.1)) (all-append P (items_at xs (take i ns)) (there.0 ∷ []) before (one, tt))
