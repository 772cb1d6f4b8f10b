use Rattle.std.proofs.Common.{ap, ◌∙◌}
use Rattle.std.specs.List.{list_any}
use Rattle.replication.specs.declared.names.ChartName.{ChartName}
use Rattle.agent_core.specs.Copying.{defined_chart}
use Rattle.agent_core.specs.Rules.{changes_grid_of}
use Rattle.agent_core.proofs.Lists.{any_map}
use Rattle.agent_core.proofs.names.changes_grid.Goals as goal

pub returns : goal.returns
returns c =
    let changes = changes_grid_of c.args.registry.now in
    c.change_grids.ensures ∙ ap (list_any (λ (chart : ChartName). changes (defined_chart chart))) c.as_slice.ensures ∙ any_map changes defined_chart c.args.names.now.charts
