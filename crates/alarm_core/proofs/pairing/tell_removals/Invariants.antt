use Rattle.std.proofs.Common.{◌≡◌, drop, map}
use Rattle.health_config.specs.Entity.{alarm_of}
use Rattle.std.specs.List.{filter_map}
use Rattle.alarm_core.specs.Pairing.{removal_of}
use Rattle.alarm_core.specs.Telling.{tell_all}
use Rattle.alarm_core.proofs.pairing.tell_removals.Given as goal

abbrev pub invariant-loop-state : goal.invariant-loop-state
invariant-loop-state l =
    tell_all l.fn.told (filter_map (removal_of (map alarm_of l.turn.before.now) l.turn.lost.now (map alarm_of l.turn.after.now) l.pairs.items.now l.registry l.moment) l.states)
    ≡ tell_all l.told (filter_map (removal_of (map alarm_of l.turn.before.now) l.turn.lost.now (map alarm_of l.turn.after.now) l.pairs.items.now l.registry l.moment) (drop l.state-index l.states))
