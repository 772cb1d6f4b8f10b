use Rattle.std.proofs.Common.{IsSome, sym, subst}
use Rattle.std.proofs.lemmas.List.Elements.{All-get_or}
use Rattle.history.specs.declared.chart.ChartDef.{ChartDef}
use Rattle.history.specs.Registry.{chart_of}
use Rattle.beat_entries.specs.Gathered.{chart_at}
use Rattle.beat_entries.specs.Rules.{with_beat}
use Rattle.beat_entries.proofs.Gathering.{gathered-more}
use Rattle.beat_entries.proofs.definitions.gather_charts.Goals as goal

pub loop-def-preserved : goal.loop-def-preserved
loop-def-preserved c =
    gathered-more (chart_at (with_beat c.args.coming.now.registry.now c.args.coming.now.beat.now)) c.args.defs.now c.loop-def.def-index c.def-item.result c.loop-def.charts.items c.push_chart.new.charts.items
    c.loop-def-test.true (sym c.def-item.is) c.in_ok-push_chart.ensures c.loop-def.invariant

pub push_chart-requires-clause-chart : goal.push_chart-requires-clause-chart
push_chart-requires-clause-chart c =
    let IsNumbered = λ (def : ChartDef). IsSome (chart_of (with_beat c.args.coming.now.registry.now c.args.coming.now.beat.now) def.id) in
    subst IsNumbered (sym c.def-item.is) (All-get_or IsNumbered c.args.defs.now c.loop-def.def-index c.def-item.result c.loop-def-test.true c.requires.charts)
