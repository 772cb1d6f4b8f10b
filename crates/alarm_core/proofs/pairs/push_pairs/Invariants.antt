use Rattle.std.proofs.Common.{◌≡◌, ◌++◌, filter, map}
use Rattle.health_config.specs.Entity.{alarm_of}
use Rattle.std.specs.List.{range_with_len}
use Rattle.alarm_core.specs.Pairs.{is_pair, first_pairs}
use Rattle.alarm_core.proofs.pairs.push_pairs.Given as goal

abbrev pub invariant-loop-chart : goal.invariant-loop-chart
invariant-loop-chart l =
    l.pairs ≡ first_pairs (l.fn.pairs ++ map (λ chart. record { alarm = l.alarm; chart = chart }) (filter (is_pair (map alarm_of l.entities) l.registry.charts l.alarm) (range_with_len 0 l.chart)))
