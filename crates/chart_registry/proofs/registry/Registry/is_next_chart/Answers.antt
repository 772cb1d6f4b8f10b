use Rattle.std.proofs.Common.{◌≡◌, Bool, ◌&&◌, true, false, nat_eq, nat_lt, length, is_none, sym, ap, ◌∙◌, arith, lt-ltb, le-ltb}
use Rattle.std.proofs.lemmas.Bool.{eq-eqb, ne_eqb}
use Rattle.history.specs.Registry.{chart_of}
use Rattle.chart_registry.proofs.Steps.{and-no}
use Rattle.chart_registry.proofs.TakenLemmas.{next-chart, none-told}
use Rattle.chart_registry.proofs.registry.Registry.is_next_chart.Goals as goal

pub returns-then-chart-ge-MOST_CHARTS : goal.returns-then-chart-ge-MOST_CHARTS
returns-then-chart-ge-MOST_CHARTS c =
    let r = c.args.self.now in
    let chart = c.args.chart.now in
    sym (next-chart r chart c.requires ∙ ap (λ (b : Bool). b && (nat_eq chart.number (length r.charts) && is_none (chart_of r chart.def.id))) (le-ltb chart.number 4096 c.if-chart-ge-MOST_CHARTS.true))

pub returns-then-chart-charts : goal.returns-then-chart-charts
returns-then-chart-charts c =
    let r = c.args.self.now in
    let chart = c.args.chart.now in
    let few : nat_lt chart.number 4096 ≡ true = lt-ltb chart.number 4096 c.if-chart-ge-MOST_CHARTS.false in
    let same : nat_eq chart.number (length r.charts) ≡ true = eq-eqb chart.number (length r.charts) (c.if-chart-charts.true ∙ c.charts.ensures.value) in
    none-told c.is_none.result c.chart_of.result c.is_none.ensures ∙ ap is_none (c.chart_of.ensures.value ∙ ap (chart_of r) c.as_str.ensures)
    ∙ sym (next-chart r chart c.requires ∙ (λ i. few i && (same i && is_none (chart_of r chart.def.id))))

pub returns-else-chart-charts : goal.returns-else-chart-charts
returns-else-chart-charts c =
    let r = c.args.self.now in
    let chart = c.args.chart.now in
    let other : nat_eq chart.number (length r.charts) ≡ false = ne_eqb chart.number (length r.charts) (λ same. c.if-chart-charts.false (same ∙ sym c.charts.ensures.value)) in
    ne_eqb chart.number c.charts.result c.if-chart-charts.false
    ∙ sym (next-chart r chart c.requires ∙ ap (λ (b : Bool). nat_lt chart.number 4096 && (b && is_none (chart_of r chart.def.id))) other ∙ and-no (nat_lt chart.number 4096))
