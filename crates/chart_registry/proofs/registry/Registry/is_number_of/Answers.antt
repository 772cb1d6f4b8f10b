use Rattle.std.proofs.Common.{ap, ◌∙◌}
use Rattle.std.specs.Str.{bytes_eq}
use Rattle.chart_registry.proofs.TakenLemmas.{number-told}
use Rattle.chart_registry.proofs.registry.Registry.is_number_of.Goals as goal

pub returns-then-number-charts-clause-value : goal.returns-then-number-charts-clause-value
returns-then-number-charts-clause-value c =
    c.eq.ensures ∙ ap (bytes_eq c.args.id.now) c.as_str.ensures ∙ number-told c.args.self.now c.args.number c.args.id.now c.chart.result.now.id c.chart.ensures.id c.chart.ensures.number
