-- A list with some items left out: what stays, and the new places of what stays.
use Rattle.std.specs.Prelude.{ℕ, zero, suc, ◌+◌, Bool, List, [], ◌∷◌, if◌then◌else◌}

-- the items whose places pass the test, where the first item's place is n
abbrev pub select : {X : Type 0} → (ℕ → Bool) → ℕ → List X → List X
select test n [] = []
select test n (x ∷ xs) = if test n then x ∷ select test (n + 1) xs else select test (n + 1) xs

-- how many of the k places from n on pass the test
abbrev pub count_from : (ℕ → Bool) → ℕ → ℕ → ℕ
count_from test n zero = 0
count_from test n (suc k) = if test n then suc (count_from test (n + 1) k) else count_from test (n + 1) k

-- the new place of what stays: how many places below it stay
abbrev pub place : (ℕ → Bool) → ℕ → ℕ
place test k = count_from test 0 k
