use Rattle.std.proofs.Common.{◌≡◌, take}
use Rattle.std.specs.List.{filter}
use Rattle.history.specs.Refusal.{is_new_chart}
use Rattle.beat_entries.proofs.fresh.fresh_charts.Given as goal

abbrev pub invariant-loop-def : goal.invariant-loop-def
invariant-loop-def l = l.table ≡ filter (is_new_chart l.registry) (take l.def-index l.charts)
