use Rattle.std.proofs.Common.{◌≡◌, drop, map}
use Rattle.health_config.specs.Entity.{alarm_of}
use Rattle.std.specs.List.{list_any}
use Rattle.alarm_core.specs.declared.pairs.Pair.{Pair}
use Rattle.alarm_core.specs.Pairing.{is_of}
use Rattle.alarm_core.proofs.pairing.stays_among.Given as goal

abbrev pub invariant-loop-pair : goal.invariant-loop-pair
invariant-loop-pair l =
    list_any (λ (pair : Pair). is_of (map alarm_of l.turn.before.now) (map alarm_of l.turn.after.now) pair l.state) l.pairs
    ≡ list_any (λ (pair : Pair). is_of (map alarm_of l.turn.before.now) (map alarm_of l.turn.after.now) pair l.state) (drop l.pair-index l.pairs)
