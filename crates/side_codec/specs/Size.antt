-- How many bytes a side has at most.
use Rattle.std.specs.Prelude.{ℕ, ◌+◌, ◌*◌, ◌≤◌, ◌^◌, length}
use Rattle.std.specs.List.{AllByRecursion}
use Rattle.alarm_events.specs.declared.kept.KeptAlarms.{KeptAlarms}
use Rattle.alarm_events.specs.declared.state.KeptState.{KeptState}
use Rattle.health_config.specs.declared.config.TheConstants.{TEXT_LIMIT}
use Rattle.health_config.specs.declared.entity.TheConstants.{NAME_LIMIT}

-- the bytes of a side with so many gaps: 8 for each gap, and all else has fewer than 2^28
abbrev pub side_limit : ℕ → ℕ
side_limit gaps = 2 ^ 28 + 8 * gaps

-- the name of its alarm has as many bytes as a configuration allows
abbrev pub IsNamedWithin : KeptState → Type 0
IsNamedWithin state = length state.alarm ≤ NAME_LIMIT

-- the health text and the names of alarms have as many bytes as a configuration allows
pub record KeepLimits (k : KeptAlarms) : Type 0 where
  pub text : length k.text ≤ TEXT_LIMIT
  pub states : AllByRecursion IsNamedWithin k.states
