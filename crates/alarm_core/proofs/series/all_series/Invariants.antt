use Rattle.std.proofs.Common.{◌≡◌, map, length}
use Rattle.std.specs.List.{range_with_len}
use Rattle.alarm_core.specs.Known.{AreKnown}
use Rattle.alarm_core.proofs.TableLemmas.{series_before}
use Rattle.alarm_core.proofs.series.all_series.Given as goal

abbrev pub invariant-loop-series : goal.invariant-loop-series
invariant-loop-series l = record {
  so_far : l.lists.items ≡ map (series_before l.registry l.series) (range_with_len 0 (length l.registry.charts));
  known : AreKnown l.registry (length l.registry.charts);
}
