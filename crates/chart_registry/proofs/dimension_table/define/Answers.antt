use Rattle.std.proofs.Common.{sym, ◌∙◌}
use Rattle.chart_registry.proofs.dimension_table.define.Goals as goal

pub returns-in-Some-clause-found : goal.returns-in-Some-clause-found
returns-in-Some-clause-found c = record {
  finds = λ chart id. c.requires.found.finds chart id ∙ sym (c.replace.ensures.kept chart id);
  counts = λ chart. c.requires.found.counts chart ∙ sym (c.replace.ensures.counts chart);
}
