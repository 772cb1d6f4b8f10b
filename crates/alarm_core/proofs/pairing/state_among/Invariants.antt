use Rattle.std.proofs.Common.{◌≡◌, drop, find, map}
use Rattle.health_config.specs.Entity.{alarm_of}
use Rattle.alarm_core.specs.Pairing.{is_of}
use Rattle.alarm_core.proofs.pairing.state_among.Given as goal

abbrev pub invariant-loop-state : goal.invariant-loop-state
invariant-loop-state l =
    find (is_of (map alarm_of l.turn.before.now) (map alarm_of l.turn.after.now) l.pair) l.states ≡ find (is_of (map alarm_of l.turn.before.now) (map alarm_of l.turn.after.now) l.pair) (drop l.state-index l.states)
