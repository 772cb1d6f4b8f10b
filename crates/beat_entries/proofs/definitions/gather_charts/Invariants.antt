use Rattle.std.proofs.Common.{◌≡◌, take}
use Rattle.std.specs.List.{filter_map}
use Rattle.beat_entries.specs.Gathered.{chart_at}
use Rattle.beat_entries.specs.Rules.{with_beat}
use Rattle.beat_entries.proofs.definitions.gather_charts.Given as goal

abbrev pub invariant-loop-def : goal.invariant-loop-def
invariant-loop-def l = l.charts.items ≡ filter_map (chart_at (with_beat l.coming.registry.now l.coming.beat.now)) (take l.def-index l.defs)
