-- A step of the loop that works out new places.
use Rattle.std.proofs.Common.{◌≡◌, ℕ, zero, suc, ◌+◌, ◌<◌, ◌≤◌, Bool, false, List, [], ◌∷◌, ◌++◌, length, get_or, cond, ◌⊎◌, inl, inr, refl, sym, ap, ◌∙◌, arith}
use Rattle.replication.specs.Marks.{AreMarks}
use Rattle.replication.specs.Places.{place}
use Rattle.replication.proofs.Places.{count_from-more}

-- what stands in a list with one more at its end
get-push : (xs : List ℕ) (y k : ℕ)
    → ((k < length xs) × (get_or (xs ++ y ∷ []) k 0 ≡ get_or xs k 0)) ⊎ (((k ≡ length xs) × (get_or (xs ++ y ∷ []) k 0 ≡ y)) ⊎ ((length xs < k) × (get_or (xs ++ y ∷ []) k 0 ≡ 0)))
get-push [] y zero = inr (inl (refl, refl))
get-push [] y (suc k) = inr (inr (omega arith, refl))
get-push (x ∷ xs) y zero = inl (omega arith, refl)
get-push (x ∷ xs) y (suc k) =
    elim (get-push xs y k) [
      | inl within ↦ inl (omega (arith, within.0), within.1)
      | inr end ↦ elim end [ inl at ↦ inr (inl (omega (arith, at.0), at.1)) | inr past ↦ inr (inr (omega (arith, past.0), past.1)) ]
    ]

pub places-small : (places : List ℕ) (next i : ℕ) → length places ≡ i → next ≤ i → ((k : ℕ) → get_or places k 0 ≤ k) → (k : ℕ) → get_or (places ++ next ∷ []) k 0 ≤ k
places-small places next i long below small k =
    elim (get-push places next k) [
      | inl within ↦ omega (arith, within.1, small k)
      | inr end ↦ elim end [ inl at ↦ omega (arith, at.0, at.1) | inr past ↦ omega (arith, past.1) ]
    ]

pub places-each : (test : ℕ → Bool) (places : List ℕ) (next i : ℕ) → length places ≡ i → ((k : ℕ) → k < i → get_or places k 0 ≡ place test k) → next ≡ place test i
    → (k : ℕ) → k < i + 1 → get_or (places ++ next ∷ []) k 0 ≡ place test k
places-each test places next i long each next_is k lt =
    elim (get-push places next k) [
      | inl within ↦ within.1 ∙ each k (omega (arith, within.0))
      | inr end ↦ elim end [ inl at ↦ at.1 ∙ next_is ∙ ap (place test) (let same : i ≡ k = omega (arith, at.0) in same) | inr past ↦ absurd (omega (arith, past.0)) ]
    ]

pub places-next : (test : ℕ → Bool) (n : ℕ) (marks : List Bool) (next i one : ℕ) (d : Bool) → AreMarks test n marks → i < length marks → next ≡ place test i → one ≡ cond (get_or marks i d) 1 0
    → next + one ≡ place test (i + 1)
places-next test n marks next i one d are lt next_is one_is =
    let mark_is : get_or marks i d ≡ test i = any-default marks i d false lt ∙ are.each i (omega (arith, are.long)) in
    let if_one : Bool → ℕ = λ b. cond b 1 0 in
    let at : 0 + i ≡ i = omega arith in
    let more : place test (suc i) ≡ place test i + if_one (test (0 + i)) = count_from-more test 0 i in
    let same : if_one (test (0 + i)) ≡ one = ap (λ n. if_one (test n)) at ∙ ap if_one (sym mark_is) ∙ sym one_is in
    let next_at : place test (i + 1) ≡ place test (suc i) = ap (place test) (let e : i + 1 ≡ suc i = omega arith in e) in
    omega (arith, more, same, next_at, next_is)
  where
    any-default : (marks : List Bool) (i : ℕ) (d e : Bool) → i < length marks → get_or marks i d ≡ get_or marks i e
    any-default [] i d e lt = absurd (omega arith)
    any-default (m ∷ ms) zero d e lt = refl
    any-default (m ∷ ms) (suc i) d e lt = any-default ms i d e (omega arith)
