use Rattle.std.proofs.Common.{IsSome, sym, subst}
use Rattle.std.proofs.lemmas.List.Elements.{All-get_or}
use Rattle.history.specs.declared.beat.OpenDim.{OpenDim}
use Rattle.history.specs.Registry.{chart_of, series_of}
use Rattle.beat_entries.specs.Gathered.{dimension_at}
use Rattle.beat_entries.specs.Rules.{with_beat}
use Rattle.beat_entries.proofs.Gathering.{gathered-more}
use Rattle.beat_entries.proofs.definitions.gather_dimensions.Goals as goal

pub loop-dimension-preserved : goal.loop-dimension-preserved
loop-dimension-preserved c =
    gathered-more (dimension_at (with_beat c.args.coming.now.registry.now c.args.coming.now.beat.now)) c.args.defs.now c.loop-dimension.dimension-index c.dimension-item.result c.loop-dimension.dimensions.items c.push_dimension.new.dimensions.items
    c.loop-dimension-test.true (sym c.dimension-item.is) c.in_ok-push_dimension.ensures c.loop-dimension.invariant

pub push_dimension-requires-clause-chart : goal.push_dimension-requires-clause-chart
push_dimension-requires-clause-chart c =
    let IsOwned = λ (dimension : OpenDim). IsSome (chart_of (with_beat c.args.coming.now.registry.now c.args.coming.now.beat.now) dimension.chart) in
    subst IsOwned (sym c.dimension-item.is)
    (All-get_or IsOwned c.args.defs.now c.loop-dimension.dimension-index c.dimension-item.result c.loop-dimension-test.true c.requires.charts)

pub push_dimension-requires-clause-series : goal.push_dimension-requires-clause-series
push_dimension-requires-clause-series c =
    let IsNumbered = λ (dimension : OpenDim). IsSome (series_of (with_beat c.args.coming.now.registry.now c.args.coming.now.beat.now) dimension.chart dimension.def.id) in
    subst IsNumbered (sym c.dimension-item.is)
    (All-get_or IsNumbered c.args.defs.now c.loop-dimension.dimension-index c.dimension-item.result c.loop-dimension-test.true c.requires.series)
