-- What a parent makes of a Data.
use Rattle.std.specs.Prelude.{ℕ, ◌==◌, Bool, true, false, nat_lt, Option, Some, None, if◌then◌else◌}
use Rattle.replication.specs.declared.verdict.Verdict.{Verdict}
use Rattle.replication.specs.declared.verdict.Verdict.TheVariants.{Stored, Old, Ahead, WrongChild}

-- the Data is stored
abbrev pub is_stored : Verdict → Bool
is_stored Stored = true
is_stored Old = false
is_stored Ahead = false
is_stored (WrongChild kept came) = false

-- by where the Data begins, where the copy ends at `last`
abbrev pub verdict_at : ℕ → ℕ → Verdict
verdict_at last prev = if nat_lt prev last then Old else if nat_lt last prev then Ahead else Stored

-- the same, of a copy of the child `kept`, if it is of one, and a Data of `came`
abbrev pub verdict_by : Option ℕ → ℕ → ℕ → ℕ → Verdict
verdict_by None last came prev = verdict_at last prev
verdict_by (Some kept) last came prev = if kept == came then verdict_at last prev else WrongChild kept came
