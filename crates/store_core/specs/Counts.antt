-- How many beats there are.
use Rattle.std.specs.Prelude.{ℕ, ◌+◌, ◌-◌, ◌^◌, min}

-- a count of so many beats: it stands still at 2^64 - 1
abbrev pub counted : ℕ → ℕ
counted n = min n (2 ^ 64 - 1)

-- after one more beat
abbrev pub raised : ℕ → ℕ
raised count = counted (count + 1)
