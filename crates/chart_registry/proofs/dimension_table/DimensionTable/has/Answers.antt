use Rattle.std.proofs.Common.{is_some, ap, ◌∙◌}
use Rattle.std.specs.List.{list_any}
use Rattle.history.specs.Registry.{is_dimension}
use Rattle.chart_registry.proofs.Places.{list_any-position}
use Rattle.chart_registry.proofs.dimension_table.DimensionTable.has.Goals as goal

pub returns : goal.returns
returns c =
    let test = is_dimension c.args.chart.now c.args.id.now in
    c.is_some.ensures ∙ ap is_some (c.place_of.ensures ∙ c.self.invariant.finds c.args.chart.now c.args.id.now)
    ∙ list_any-position test c.self.inside.defs.items ∙ ap (list_any test) c.self.view_is
