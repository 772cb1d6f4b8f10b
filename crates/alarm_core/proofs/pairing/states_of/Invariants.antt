use Rattle.std.proofs.Common.{◌≡◌, ◌++◌, drop, map}
use Rattle.health_config.specs.Entity.{alarm_of}
use Rattle.alarm_core.specs.Pairing.{state_of}
use Rattle.alarm_core.proofs.pairing.states_of.Given as goal

abbrev pub invariant-loop-pair : goal.invariant-loop-pair
invariant-loop-pair l =
    map (state_of (map alarm_of l.turn.before.now) (map alarm_of l.turn.after.now) l.states.items.now) l.pairs
    ≡ l.made ++ map (state_of (map alarm_of l.turn.before.now) (map alarm_of l.turn.after.now) l.states.items.now) (drop l.pair-index l.pairs)
