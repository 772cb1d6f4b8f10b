use Rattle.std.specs.Prelude.{◌==◌, ℕ, nat_lt, List, length, Result, Ok, Err, if◌then◌else◌}
use Rattle.history.specs.declared.limits.TheConstants.{ID_LIMIT}
use Rattle.history.specs.Limits.{has_two_parts}
use Rattle.plugin_text.specs.declared.fault.LineFault.{LineFault}
use Rattle.plugin_text.specs.declared.fault.LineFault.TheVariants.{MissingWord, LongId}

-- a word, where it is no longer than an id may be
abbrev pub short_id : List ℕ → Result (List ℕ) LineFault
short_id word = if nat_lt ID_LIMIT (length word) then Err LongId else Ok word

-- a word as the id of a chart
abbrev pub chart_id : List ℕ → Result (List ℕ) LineFault
chart_id word = if has_two_parts word then short_id word else Err MissingWord

-- a word as the id of a dimension
abbrev pub dimension_id : List ℕ → Result (List ℕ) LineFault
dimension_id word = if length word == 0 then Err MissingWord else short_id word
