use Rattle.std.proofs.Common.{position, ap, ◌∙◌}
use Rattle.history.specs.Registry.{is_dimension}
use Rattle.chart_registry.proofs.dimension_table.DimensionTable.place_of.Goals as goal

pub returns : goal.returns
returns c =
    c.place_of.ensures ∙ c.self.invariant.finds c.args.chart.now c.args.id.now ∙ ap (position (is_dimension c.args.chart.now c.args.id.now)) c.self.view_is
