-- Pairs, one alarm and one chart after the other.
use Rattle.std.proofs.Common.{◌≡◌, ℕ, zero, suc, ◌+◌, ◌<◌, ◌≤◌, Bool, true, false, cond, ◌||◌, List, [], ◌∷◌, ◌++◌, length, map, filter, take, arith, refl, sym, ap, ◌∙◌, append_assoc, append-nil}
use Rattle.std.proofs.lemmas.List.{length-append, length-take, take_all, take-append-le}
use Rattle.std.proofs.lemmas.List.Elements.{filter-append}
use Rattle.std.proofs.lemmas.List.Folds.{list_any-append}
use Rattle.std.proofs.lemmas.Grind.{flat_map-append}
use Rattle.std.specs.List.{flat_map, list_any, range_with_len}
use Rattle.alarm_core.specs.declared.pairs.Pair.{Pair}
use Rattle.alarm_core.specs.Pairs.{most_pairs, first_pairs}

-- ---- numbers in a row

pub range_suc : (a n : ℕ) → range_with_len a (suc n) ≡ range_with_len a n ++ (a + n) ∷ []
range_suc a zero = let same : a ≡ a + 0 = omega arith in ap (λ (k : ℕ). k ∷ []) same
range_suc a (suc n) =
    let same : a + 1 + n ≡ a + suc n = omega arith in
    ap (λ (l : List ℕ). a ∷ l) (range_suc (a + 1) n ∙ ap (λ (k : ℕ). range_with_len (a + 1) n ++ k ∷ []) same)

pub range_more : (n : ℕ) → range_with_len 0 (n + 1) ≡ range_with_len 0 n ++ n ∷ []
range_more n =
    let next : n + 1 ≡ suc n = omega arith in
    let same : 0 + n ≡ n = omega arith in
    ap (range_with_len 0) next ∙ range_suc 0 n ∙ ap (λ (k : ℕ). range_with_len 0 n ++ k ∷ []) same

-- ---- whether one passes

pub or_right : (a b : Bool) → b ≡ true → (a || b) ≡ true
or_right true b is = refl
or_right false b is = is

pub or_left : (a b : Bool) → a ≡ true → (a || b) ≡ true
or_left a b is = ap (λ (c : Bool). c || b) is

any_from : (p : ℕ → Bool) (a n i : ℕ) → i < n → p (a + i) ≡ true → list_any p (range_with_len a n) ≡ true
any_from p a zero i inside passes = absurd (omega arith)
any_from p a (suc n) zero inside passes =
    let same : a + 0 ≡ a = omega arith in
    or_left (p a) (list_any p (range_with_len (a + 1) n)) (ap p (sym same) ∙ passes)
any_from p a (suc n) (suc i) inside passes =
    let same : a + 1 + i ≡ a + suc i = omega arith in
    or_right (p a) (list_any p (range_with_len (a + 1) n)) (any_from p (a + 1) n i (omega arith) (ap p same ∙ passes))

pub any_found : (p : ℕ → Bool) (n i : ℕ) → i < n → p i ≡ true → true ≡ list_any p (range_with_len 0 n)
any_found p n i inside passes =
    let same : 0 + i ≡ i = omega arith in
    sym (any_from p 0 n i inside (ap p same ∙ passes))

pub any_more : (p : ℕ → Bool) (i : ℕ) → list_any p (range_with_len 0 i) ≡ false → p i ≡ false → list_any p (range_with_len 0 (i + 1)) ≡ false
any_more p i none fails =
    ap (list_any p) (range_more i)
    ∙ list_any-append p (range_with_len 0 i) (i ∷ [])
    ∙ ap (λ (b : Bool). b || list_any p (i ∷ [])) none
    ∙ ap (λ (b : Bool). b || false) fails

pub any_none : (p : ℕ → Bool) (i n : ℕ) → i ≡ n → list_any p (range_with_len 0 i) ≡ false → false ≡ list_any p (range_with_len 0 n)
any_none p i n end none = sym none ∙ ap (λ (k : ℕ). list_any p (range_with_len 0 k)) end

-- ---- a list that is cut

take-take : (n : ℕ) (xs ys : List Pair) → take n (take n xs ++ ys) ≡ take n (xs ++ ys)
take-take zero xs ys = refl
take-take (suc n) [] ys = refl
take-take (suc n) (x ∷ xs) ys = ap (λ (rest : List Pair). x ∷ rest) (take-take n xs ys)

first_again : (xs ys : List Pair) → first_pairs (first_pairs xs ++ ys) ≡ first_pairs (xs ++ ys)
unfolding first_pairs
first_again xs ys = take-take most_pairs xs ys

pub first_few : (xs : List Pair) → length (first_pairs xs) ≤ most_pairs
unfolding first_pairs
first_few xs = few_of most_pairs xs
  where
    few_of : (n : ℕ) (xs : List Pair) → length (take n xs) ≤ n
    few_of n xs = omega (arith, length-take n xs)

pub first_short : (xs : List Pair) → length xs ≤ most_pairs → xs ≡ first_pairs xs
unfolding first_pairs
first_short xs few = sym (take_all most_pairs xs few)

-- nothing more is kept
pub kept_full : (old more : List Pair) → length old ≤ most_pairs → most_pairs ≤ length old → old ≡ first_pairs (old ++ more)
unfolding first_pairs
kept_full old more few full = sym (take-append-le most_pairs old more full ∙ take_all most_pairs old few)

pub kept_none : (old : List Pair) (pair : Pair) (wanted : Bool) → wanted ≡ false → length old ≤ most_pairs → old ≡ first_pairs (old ++ cond wanted (pair ∷ []) [])
kept_none old pair wanted is few =
    first_short old few ∙ ap first_pairs (sym (append-nil old)) ∙ sym (ap (λ (b : Bool). first_pairs (old ++ cond b (pair ∷ []) [])) is)

pub kept_one : (old : List Pair) (pair : Pair) (wanted : Bool) → wanted ≡ true → length old < most_pairs → old ++ pair ∷ [] ≡ first_pairs (old ++ cond wanted (pair ∷ []) [])
kept_one old pair wanted is few =
    first_short (old ++ pair ∷ []) (omega (arith, length-append old (pair ∷ []), few))
    ∙ sym (ap (λ (b : Bool). first_pairs (old ++ cond b (pair ∷ []) [])) is)

-- one chart more
pub chart_more : (p : ℕ → Bool) (pair : ℕ → Pair) (old before after : List Pair) (i : ℕ) (wanted : Bool) → wanted ≡ p i
    → before ≡ first_pairs (old ++ map pair (filter p (range_with_len 0 i)))
    → after ≡ first_pairs (before ++ cond wanted (pair i ∷ []) [])
    → after ≡ first_pairs (old ++ map pair (filter p (range_with_len 0 (i + 1))))
chart_more p pair old before after i wanted is was made =
    let prefix : List Pair = map pair (filter p (range_with_len 0 i)) in
    made
    ∙ ap (λ (l : List Pair). first_pairs (l ++ cond wanted (pair i ∷ []) [])) was
    ∙ first_again (old ++ prefix) (cond wanted (pair i ∷ []) [])
    ∙ ap first_pairs (append_assoc old prefix (cond wanted (pair i ∷ []) []))
    ∙ ap (λ (l : List Pair). first_pairs (old ++ l)) (joined wanted is)
  where
    map-append : (xs ys : List ℕ) → map pair (xs ++ ys) ≡ map pair xs ++ map pair ys
    map-append [] ys = refl
    map-append (x ∷ xs) ys = ap (λ (rest : List Pair). pair x ∷ rest) (map-append xs ys)

    kept : (b : Bool) → b ≡ p i → cond b (pair i ∷ []) [] ≡ map pair (filter p (i ∷ []))
    kept true e = sym (ap (λ (b : Bool). map pair (cond b (i ∷ []) [])) (sym e))
    kept false e = sym (ap (λ (b : Bool). map pair (cond b (i ∷ []) [])) (sym e))

    joined : (b : Bool) → b ≡ p i → map pair (filter p (range_with_len 0 i)) ++ cond b (pair i ∷ []) [] ≡ map pair (filter p (range_with_len 0 (i + 1)))
    joined b e =
        ap (λ (l : List Pair). map pair (filter p (range_with_len 0 i)) ++ l) (kept b e)
        ∙ sym (map-append (filter p (range_with_len 0 i)) (filter p (i ∷ [])))
        ∙ ap (map pair) (sym (filter-append p (range_with_len 0 i) (i ∷ [])))
        ∙ ap (λ (l : List ℕ). map pair (filter p l)) (sym (range_more i))

-- one alarm more
pub alarm_more : (f : ℕ → List Pair) (before after : List Pair) (i : ℕ) → before ≡ first_pairs (flat_map f (range_with_len 0 i))
    → after ≡ first_pairs (before ++ f i) → after ≡ first_pairs (flat_map f (range_with_len 0 (i + 1)))
alarm_more f before after i was made =
    made
    ∙ ap (λ (l : List Pair). first_pairs (l ++ f i)) was
    ∙ first_again (flat_map f (range_with_len 0 i)) (f i)
    ∙ ap (λ (l : List Pair). first_pairs (flat_map f (range_with_len 0 i) ++ l)) (sym (append-nil (f i)))
    ∙ ap first_pairs (sym (flat_map-append f (range_with_len 0 i) (i ∷ [])))
    ∙ ap (λ (l : List ℕ). first_pairs (flat_map f l)) (sym (range_more i))
