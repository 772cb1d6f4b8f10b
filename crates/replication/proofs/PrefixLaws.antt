-- The longest prefix, and that a child's first beats give the same answer.
use Rattle.std.proofs.Common.{◌≡◌, ℕ, zero, suc, ◌==◌, ◌<◌, ◌≤◌, Bool, true, false, leb, max, List, [], ◌∷◌, length, take, cond, ◌⊎◌, inl, inr, refl, sym, ap, subst, ◌∙◌, arith, Some, None}
use Rattle.std.proofs.lemmas.Bool.{cases_Bool, cases_lt, cond-true, cond-false, false≢true}
use Rattle.std.proofs.lemmas.List.{take_all, take-take}
use Rattle.replication.specs.declared.ask.Ask.{Ask}
use Rattle.replication.specs.declared.beats.Beat.{Beat}
use Rattle.replication.specs.declared.message.Data.{Data}
use Rattle.replication.specs.declared.names.Names.{Names}
use Rattle.replication.specs.Answer.{from_of, data_with, longest, prefix, with_prefix, data_of}
use Rattle.replication.specs.Bytes.{data_bytes}
use Rattle.replication.specs.Copies.{RisesFrom, above}
use Rattle.replication.specs.Names.{beat_moment}
use Rattle.replication.proofs.Copies.{rises-take, above-all, RisesFrom-above}

-- whether the Data with the first n beats has no more bytes than it may have
abbrev pub fits : (List Beat → Data) → List Beat → ℕ → Bool
fits make beats n = leb (length (data_bytes (make (take n beats)))) 1048576

pub longest-le : (make : List Beat → Data) (beats : List Beat) (n : ℕ) → longest make beats n ≤ n
unfolding longest
longest-le make beats zero = omega arith
longest-le make beats (suc n) =
    let rest = longest-le make beats n in
    elim (cases_Bool (fits make beats (suc n))) [
      | inl fit ↦ subst (λ m. m ≤ suc n) (sym (cond-true (fits make beats (suc n)) (suc n) (longest make beats n) fit)) (omega arith)
      | inr long ↦ subst (λ m. m ≤ suc n) (sym (cond-false (fits make beats (suc n)) (suc n) (longest make beats n) long)) (omega arith)
    ]

longest-ge : (make : List Beat → Data) (beats : List Beat) (n count : ℕ) → count ≤ n → fits make beats count ≡ true → count ≤ longest make beats n
unfolding longest
longest-ge make beats zero count le fit = omega arith
longest-ge make beats (suc n) count le fit =
    elim (cases_Bool (fits make beats (suc n))) [
      | inl now ↦ subst (λ m. count ≤ m) (sym (cond-true (fits make beats (suc n)) (suc n) (longest make beats n) now)) le
      | inr long ↦ subst (λ m. count ≤ m) (sym (cond-false (fits make beats (suc n)) (suc n) (longest make beats n) long))
          (longest-ge make beats n count (below (cases_lt n count) long) fit)
    ]
  where
    below : ((n < count) ⊎ (count ≤ n)) → fits make beats (suc n) ≡ false → count ≤ n
    below (inl lt) long = let same : count ≡ suc n = omega arith in absurd (false≢true (sym long ∙ ap (fits make beats) (sym same) ∙ fit))
    below (inr ge) long = ge

longest-stop : (make : List Beat → Data) (beats : List Beat) (n count : ℕ) → ((k : ℕ) → count < k → k ≤ n → fits make beats k ≡ false) → longest make beats n ≤ count
unfolding longest
longest-stop make beats zero count long = omega arith
longest-stop make beats (suc n) count long =
    elim (cases_Bool (fits make beats (suc n))) [
      | inl now ↦ subst (λ m. m ≤ count) (sym (cond-true (fits make beats (suc n)) (suc n) (longest make beats n) now)) (within (cases_lt count (suc n)) now)
      | inr past ↦ subst (λ m. m ≤ count) (sym (cond-false (fits make beats (suc n)) (suc n) (longest make beats n) past)) (longest-stop make beats n count (λ k lt le. long k lt (omega arith)))
    ]
  where
    within : ((count < suc n) ⊎ (suc n ≤ count)) → fits make beats (suc n) ≡ true → suc n ≤ count
    within (inl lt) now = absurd (false≢true (sym (long (suc n) lt (omega arith)) ∙ now))
    within (inr ge) now = ge

-- the prefix is the first `count` beats, where these fit and no more do, or there are no more
pub prefix-is : (make : List Beat → Data) (beats : List Beat) (count : ℕ) → count ≤ 64 → ((count ≡ 0) ⊎ (fits make beats count ≡ true))
    → ((length beats ≤ count) ⊎ ((k : ℕ) → count < k → k ≤ 64 → fits make beats k ≡ false)) → take (max count 1) beats ≡ prefix make beats
prefix-is make beats count le fit ends =
    by (reached fit) ends
  where
    reached : ((count ≡ 0) ⊎ (fits make beats count ≡ true)) → count ≤ longest make beats 64
    reached (inl none) = omega arith
    reached (inr fit) = longest-ge make beats 64 count le fit

    by : count ≤ longest make beats 64 → ((length beats ≤ count) ⊎ ((k : ℕ) → count < k → k ≤ 64 → fits make beats k ≡ false)) → take (max count 1) beats ≡ prefix make beats
    by ge (inl all) = take_all (max count 1) beats (omega arith) ∙ sym (take_all (max 1 (longest make beats 64)) beats (omega arith))
    by ge (inr long) =
        let stop = longest-stop make beats 64 count long in
        let same : max count 1 ≡ max 1 (longest make beats 64) = omega arith in
        ap (λ n. take n beats) same

longest-take : (make : List Beat → Data) (beats : List Beat) (m n : ℕ) → n ≤ m → longest make (take m beats) n ≡ longest make beats n
unfolding longest
longest-take make beats m zero le = refl
longest-take make beats m (suc n) le =
    let same : take (suc n) (take m beats) ≡ take (suc n) beats = take-take (suc n) m beats le in
    let rest = longest-take make beats m n (omega arith) in
    λ i. cond (leb (length (data_bytes (make (same i)))) 1048576) (suc n) (rest i)

with_prefix-take : (make : List Beat → Data) (beats : List Beat) → with_prefix make (take 64 beats) ≡ with_prefix make beats
with_prefix-take make [] = refl
with_prefix-take make (x ∷ xs) =
    let le = longest-le make (x ∷ xs) 64 in
    let counts : longest make (take 64 (x ∷ xs)) 64 ≡ longest make (x ∷ xs) 64 = longest-take make (x ∷ xs) 64 64 (omega arith) in
    ap (λ prefix. Some (make prefix))
    (ap (λ n. take (max 1 n) (take 64 (x ∷ xs))) counts ∙ take-take (max 1 (longest make (x ∷ xs) 64)) 64 (x ∷ xs) (omega arith))

-- the first 64 beats above where an answer begins are all that it needs
pub data_of-take : (child floor : ℕ) (names : Names) (beats : List Beat) (ask : Ask) → RisesFrom beat_moment 0 beats
    → data_of child floor names (take 64 (above beat_moment (from_of floor ask.last) beats)) ask ≡ data_of child floor names beats ask
data_of-take child floor names beats ask rises =
    let from = from_of floor ask.last in
    let later = above beat_moment from beats in
    let same : above beat_moment from (take 64 later) ≡ take 64 later =
    above-all beat_moment from from (take 64 later) (rises-take beat_moment from 64 later (RisesFrom-above beat_moment 0 from beats rises)) (omega arith) in
    ap (λ answer. cond (child == ask.child) answer None) (ap (with_prefix (data_with child floor ask.last names)) same ∙ with_prefix-take (data_with child floor ask.last names) later)
