use Rattle.std.proofs.Common.{◌≡◌, drop, find, map}
use Rattle.health_config.specs.Entity.{alarm_of}
use Rattle.alarm_core.specs.Kept.{is_pair_of}
use Rattle.alarm_core.proofs.restore.pair_among.Given as goal

abbrev pub invariant-loop-pair : goal.invariant-loop-pair
invariant-loop-pair l =
    find (is_pair_of (map alarm_of l.entities) l.kept) l.pairs ≡ find (is_pair_of (map alarm_of l.entities) l.kept) (drop l.pair-index l.pairs)
