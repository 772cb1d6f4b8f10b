-- What stays of a list, and where it stands then.
use Rattle.std.proofs.Common.{◌≡◌, ℕ, zero, suc, ◌==◌, ◌+◌, ◌≤◌, Bool, true, false, ◌||◌, List, [], ◌∷◌, ◌++◌, length, cond, inl, inr, refl, sym, ap, subst, ◌∙◌, arith, zero-add, Some, slice_get}
use Rattle.std.specs.List.{sum_by}
use Rattle.std.proofs.lemmas.Bool.{cases_Bool, cond-true, cond-false, or_right, ne_eqb, eq-eqb}
use Rattle.std.proofs.lemmas.List.Sums.{sum_by-cons}
use Rattle.replication.specs.Places.{select, count_from}

pub or-false : (a b : Bool) → b ≡ false → (a || b) ≡ a
or-false true b none = refl
or-false false b none = none

select-same : {X : Type 0} (test other : ℕ → Bool) (n : ℕ) (xs : List X) → ((k : ℕ) → n ≤ k → other k ≡ test k) → select other n xs ≡ select test n xs
select-same test other n [] same = refl
select-same test other n (x ∷ xs) same =
    let rest = select-same test other (n + 1) xs (λ k le. same k (omega arith)) in
    elim (cases_Bool (test n)) [
      | inl passes ↦ cond-true (other n) _ _ (same n (omega arith) ∙ passes) ∙ ap (λ more. x ∷ more) rest ∙ sym (cond-true (test n) _ _ passes)
      | inr fails ↦ cond-false (other n) _ _ (same n (omega arith) ∙ fails) ∙ rest ∙ sym (cond-false (test n) _ _ fails)
    ]

-- what stays stands at its new place
pub select-place : {X : Type 0} (test : ℕ → Bool) (n k : ℕ) (xs : List X) → test (n + k) ≡ true → slice_get (select test n xs) (count_from test n k) ≡ slice_get xs k
select-place test n k [] passes = refl
select-place test n zero (x ∷ xs) passes =
    let here : test n ≡ true = subst (λ m. test m ≡ true) (omega arith) passes in
    ap (λ some. slice_get some 0) (cond-true (test n) (x ∷ select test (n + 1) xs) (select test (n + 1) xs) here)
select-place test n (suc k) (x ∷ xs) passes =
    let rest = select-place test (n + 1) k xs (subst (λ m. test m ≡ true) (omega arith) passes) in
    elim (cases_Bool (test n)) [
      | inl here ↦ ap (λ some. slice_get some (count_from test n (suc k))) (cond-true (test n) (x ∷ select test (n + 1) xs) (select test (n + 1) xs) here)
          ∙ ap (λ at. slice_get (x ∷ select test (n + 1) xs) at) (cond-true (test n) (suc (count_from test (n + 1) k)) (count_from test (n + 1) k) here) ∙ rest
      | inr not_here ↦ ap (λ some. slice_get some (count_from test n (suc k))) (cond-false (test n) (x ∷ select test (n + 1) xs) (select test (n + 1) xs) not_here)
          ∙ ap (λ at. slice_get (select test (n + 1) xs) at) (cond-false (test n) (suc (count_from test (n + 1) k)) (count_from test (n + 1) k) not_here) ∙ rest
    ]

-- one more item
pub select-more : {X : Type 0} (test : ℕ → Bool) (n : ℕ) (xs : List X) (x : X) → select test n (xs ++ x ∷ []) ≡ select test n xs ++ cond (test (n + length xs)) (x ∷ []) []
select-more test n [] x = ap (λ m. cond (test m) (x ∷ []) []) (omega arith)
select-more test n (y ∷ ys) x =
    let at : n + 1 + length ys ≡ n + length (y ∷ ys) = omega arith in
    let rest : select test (n + 1) (ys ++ x ∷ []) ≡ select test (n + 1) ys ++ cond (test (n + length (y ∷ ys))) (x ∷ []) [] =
    select-more test (n + 1) ys x ∙ ap (λ m. select test (n + 1) ys ++ cond (test m) (x ∷ []) []) at in
    elim (cases_Bool (test n)) [
      | inl here ↦ cond-true (test n) _ _ here ∙ ap (λ more. y ∷ more) rest ∙ ap (λ some. some ++ cond (test (n + length (y ∷ ys))) (x ∷ []) []) (sym (cond-true (test n) (y ∷ select test (n + 1) ys) (select test (n + 1) ys) here))
      | inr not_here ↦ cond-false (test n) _ _ not_here ∙ rest ∙ ap (λ some. some ++ cond (test (n + length (y ∷ ys))) (x ∷ []) []) (sym (cond-false (test n) (y ∷ select test (n + 1) ys) (select test (n + 1) ys) not_here))
    ]

-- one more place
pub count_from-more : (test : ℕ → Bool) (n k : ℕ) → count_from test n (suc k) ≡ count_from test n k + cond (test (n + k)) 1 0
count_from-more test n zero =
    let one : ℕ → ℕ = λ m. cond (test m) 1 0 in
    let at : n + 0 ≡ n = omega arith in
    sym (zero-add (one (n + 0)) ∙ ap one at)
count_from-more test n (suc k) =
    let at : n + 1 + k ≡ n + suc k = omega arith in
    let rest : count_from test (n + 1) (suc k) ≡ count_from test (n + 1) k + cond (test (n + suc k)) 1 0 = count_from-more test (n + 1) k ∙ ap (λ m. count_from test (n + 1) k + cond (test m) 1 0) at in
    elim (cases_Bool (test n)) [
      | inl here ↦ cond-true (test n) (suc (count_from test (n + 1) (suc k))) (count_from test (n + 1) (suc k)) here ∙ ap suc rest
          ∙ (let e : suc (count_from test (n + 1) k + cond (test (n + suc k)) 1 0) ≡ suc (count_from test (n + 1) k) + cond (test (n + suc k)) 1 0 = omega arith in e)
          ∙ ap (λ some. some + cond (test (n + suc k)) 1 0) (sym (cond-true (test n) (suc (count_from test (n + 1) k)) (count_from test (n + 1) k) here))
      | inr not_here ↦ cond-false (test n) (suc (count_from test (n + 1) (suc k))) (count_from test (n + 1) (suc k)) not_here ∙ rest
          ∙ ap (λ some. some + cond (test (n + suc k)) 1 0) (sym (cond-false (test n) (suc (count_from test (n + 1) k)) (count_from test (n + 1) k) not_here))
    ]

-- where one more place passes, what stays has its item more, unless it had it
pub sum_by-select : {X : Type 0} (f : X → ℕ) (test other : ℕ → Bool) (n k : ℕ) (xs : List X) (x : X) → ((j : ℕ) → other j ≡ (test j || (n + k == j))) → slice_get xs k ≡ Some x
    → sum_by f (select other n xs) ≡ sum_by f (select test n xs) + cond (test (n + k)) 0 (f x)
sum_by-select f test other n k [] x each is = absurd (cc)
sum_by-select f test other n zero (y ∷ ys) x each is =
    let same : y ≡ x = cc in
    let at : n + 0 ≡ n = omega arith in
    let rest : select other (n + 1) ys ≡ select test (n + 1) ys = select-same test other (n + 1) ys (λ j le. each j ∙ or-false (test j) (n + 0 == j) (ne_eqb (n + 0) j (λ e. omega arith))) in
    let passes : other n ≡ true = each n ∙ or_right (test n) (n + 0 == n) (eq-eqb (n + 0) n at) in
    let now : sum_by f (select other n (y ∷ ys)) ≡ f x + sum_by f (select test (n + 1) ys) =
    ap (sum_by f) (cond-true (other n) (y ∷ select other (n + 1) ys) (select other (n + 1) ys) passes) ∙ sum_by-cons f y (select other (n + 1) ys)
    ∙ ap (λ z. f z + sum_by f (select other (n + 1) ys)) same ∙ ap (λ some. f x + sum_by f some) rest in
    let before = λ (b : Bool) (e : test n ≡ b). ap (λ c. cond c (y ∷ select test (n + 1) ys) (select test (n + 1) ys)) e in
    subst (λ m. sum_by f (select other n (y ∷ ys)) ≡ sum_by f (select test n (y ∷ ys)) + cond (test m) 0 (f x)) (sym at) (elim (cases_Bool (test n)) [
      | inl here ↦ now ∙ ap (λ z. f z + sum_by f (select test (n + 1) ys)) (sym same) ∙ sym (sum_by-cons f y (select test (n + 1) ys)) ∙ ap (sum_by f) (sym (before true here))
          ∙ (let e : sum_by f (select test n (y ∷ ys)) ≡ sum_by f (select test n (y ∷ ys)) + 0 = omega arith in e) ∙ ap (λ more. sum_by f (select test n (y ∷ ys)) + more) (sym (cond-true (test n) 0 (f x) here))
      | inr not_here ↦ now ∙ (let e : f x + sum_by f (select test (n + 1) ys) ≡ sum_by f (select test (n + 1) ys) + f x = omega arith in e)
          ∙ ap (λ some. sum_by f some + f x) (sym (before false not_here)) ∙ ap (λ more. sum_by f (select test n (y ∷ ys)) + more) (sym (cond-false (test n) 0 (f x) not_here))
    ])
sum_by-select f test other n (suc k) (y ∷ ys) x each is =
    let at : n + 1 + k ≡ n + suc k = omega arith in
    let rest : sum_by f (select other (n + 1) ys) ≡ sum_by f (select test (n + 1) ys) + cond (test (n + suc k)) 0 (f x) =
    subst (λ m. sum_by f (select other (n + 1) ys) ≡ sum_by f (select test (n + 1) ys) + cond (test m) 0 (f x)) at
    (sum_by-select f test other (n + 1) k ys x (λ j. each j ∙ ap (λ m. test j || (m == j)) (sym at)) is) in
    let same : other n ≡ test n = each n ∙ or-false (test n) (n + suc k == n) (ne_eqb (n + suc k) n (λ e. omega arith)) in
    elim (cases_Bool (test n)) [
      | inl here ↦
          let new : sum_by f (select other n (y ∷ ys)) ≡ f y + sum_by f (select other (n + 1) ys) =
          ap (sum_by f) (cond-true (other n) (y ∷ select other (n + 1) ys) (select other (n + 1) ys) (same ∙ here)) ∙ sum_by-cons f y (select other (n + 1) ys) in
          let old : sum_by f (select test n (y ∷ ys)) ≡ f y + sum_by f (select test (n + 1) ys) =
          ap (sum_by f) (cond-true (test n) (y ∷ select test (n + 1) ys) (select test (n + 1) ys) here) ∙ sum_by-cons f y (select test (n + 1) ys) in
          omega arith
      | inr not_here ↦
          let new : sum_by f (select other n (y ∷ ys)) ≡ sum_by f (select other (n + 1) ys) =
          ap (sum_by f) (cond-false (other n) (y ∷ select other (n + 1) ys) (select other (n + 1) ys) (same ∙ not_here)) in
          let old : sum_by f (select test n (y ∷ ys)) ≡ sum_by f (select test (n + 1) ys) =
          ap (sum_by f) (cond-false (test n) (y ∷ select test (n + 1) ys) (select test (n + 1) ys) not_here) in
          omega arith
    ]
