-- The moments of charts.
use Rattle.std.specs.Prelude.{ℕ, ◌<◌, ◌^◌}

-- the moments that have a spelling
abbrev pub IsMoment : ℕ → Type 0
IsMoment moment = moment < 2 ^ 32

-- any may be written
abbrev pub IsAnyMoment : ℕ → Type 0
IsAnyMoment moment = Unit {0}
