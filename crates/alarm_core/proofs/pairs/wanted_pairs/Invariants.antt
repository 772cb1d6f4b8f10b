use Rattle.std.proofs.Common.{◌≡◌, map}
use Rattle.health_config.specs.Entity.{alarm_of}
use Rattle.std.specs.List.{flat_map, range_with_len}
use Rattle.alarm_core.specs.Pairs.{pairs_of, first_pairs}
use Rattle.alarm_core.proofs.pairs.wanted_pairs.Given as goal

abbrev pub invariant-loop-alarm : goal.invariant-loop-alarm
invariant-loop-alarm l = l.pairs ≡ first_pairs (flat_map (pairs_of (map alarm_of l.entities) l.registry.charts) (range_with_len 0 l.alarm))
