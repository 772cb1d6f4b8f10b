use Rattle.std.specs.Prelude.{ℕ, ◌^◌, ◌≤◌, ℤ, unsigned_abs}

-- how many ten-millionths one has
abbrev pub one : ℕ
one = 10 ^ 7

-- the greatest size of a value, in ten-millionths
abbrev pub limit : ℕ
limit = 10 ^ 29

abbrev pub IsWithinLimit : ℤ → Type 0
IsWithinLimit value = unsigned_abs value ≤ limit
