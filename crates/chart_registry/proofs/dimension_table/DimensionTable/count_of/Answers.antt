use Rattle.std.proofs.Common.{arith, length, ap, ◌∙◌}
use Rattle.std.specs.List.{count_by}
use Rattle.std.proofs.lemmas.List.Sums.{count_by-le-length}
use Rattle.history.specs.Registry.{is_of}
use Rattle.chart_registry.proofs.TablesLemmas.{entries_of}
use Rattle.chart_registry.proofs.dimension_table.DimensionTable.count_of.Goals as goal

pub returns-in-Some-clause-value : goal.returns-in-Some-clause-value
returns-in-Some-clause-value c =
    c.len.ensures.len ∙ ap (λ found. length (entries_of found)) c.in-Some.ensures.value ∙ c.self.invariant.counts c.args.chart.now ∙ ap (count_by (is_of c.args.chart.now)) c.self.view_is

pub returns-in-Some-clause-within : goal.returns-in-Some-clause-within
returns-in-Some-clause-within c = omega (arith, returns-in-Some-clause-value c, count_by-le-length (is_of c.args.chart.now) c.args.self.now)

pub returns-in-None-clause-value : goal.returns-in-None-clause-value
returns-in-None-clause-value c =
    ap (λ found. length (entries_of found)) c.in-None.ensures.value ∙ c.self.invariant.counts c.args.chart.now ∙ ap (count_by (is_of c.args.chart.now)) c.self.view_is
