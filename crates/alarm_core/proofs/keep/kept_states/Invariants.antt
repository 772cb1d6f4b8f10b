use Rattle.std.proofs.Common.{◌≡◌, ◌++◌, drop, map}
use Rattle.health_config.specs.Entity.{alarm_of}
use Rattle.alarm_core.specs.Kept.{kept_state}
use Rattle.alarm_core.proofs.keep.kept_states.Given as goal

abbrev pub invariant-loop-state : goal.invariant-loop-state
invariant-loop-state l =
    map (kept_state (map alarm_of l.alarms) l.lost) l.states
    ≡ l.kept ++ map (kept_state (map alarm_of l.alarms) l.lost) (drop l.state-index l.states)
