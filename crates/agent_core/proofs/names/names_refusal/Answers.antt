use Rattle.std.proofs.Common.{sym, ◌∙◌}
use Rattle.agent_core.proofs.NewNames.{few-named}
use Rattle.agent_core.proofs.names.names_refusal.Goals as goal

pub too_many_dimensions-requires-clause-few : goal.too_many_dimensions-requires-clause-few
too_many_dimensions-requires-clause-few c =
    few-named c.args.registry.now c.args.names.now c.requires.charts (sym c.too_many_charts.ensures ∙ c.if-too_many_charts.false)
