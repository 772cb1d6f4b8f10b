use Rattle.std.proofs.Common.{◌≡◌, ◌<◌, ◌≤◌, false, true, length, map, get_or, sym, ap, ◌∙◌, arith}
use Rattle.std.proofs.lemmas.List.{length-map, take_all}
use Rattle.std.proofs.lemmas.Result.{err_from_is_err_and}
use Rattle.chart_registry.specs.Taking.{takes_chart, with_chart, with_charts}
use Rattle.chart_registry.proofs.Places.{get_or-map_any}
use Rattle.chart_registry.proofs.Steps.{steps-all, steps-more, steps-stop}
use Rattle.chart_registry.proofs.TakenLemmas.{charts-pushed}
use Rattle.beat_entries.specs.Copied.{full_chart}
use Rattle.beat_entries.proofs.defining.define_copied_charts.Goals as goal

pub loop-chart-preserved : goal.loop-chart-preserved
loop-chart-preserved c =
    let first = c.args.registry.now in
    let charts = c.args.charts.now in
    let i = c.loop-chart.chart-index in
    let chart = c.chart-item.result in
    let full = full_chart chart in
    let at : get_or (map full_chart charts) i full ≡ full = get_or-map_any full_chart charts i chart ∙ ap full_chart (sym c.chart-item.is) in
    let within : i < length (map full_chart charts) = omega (arith, c.loop-chart-test.true, length-map charts full_chart) in
    let old = c.loop-chart.registry in
    let made = c.in_ok-take_chart.ensures.ok ∙ ap (with_chart old) c.in_ok-full.ensures in
    let taken : takes_chart old full ≡ true = ap (takes_chart old) (sym c.in_ok-full.ensures) ∙ c.in_ok-take_chart.ensures.taken in
    let before = c.loop-chart.invariant in (
      charts-pushed first old c.take_chart.new.registry (map full_chart charts) i full within at before.0 made,
      steps-more takes_chart with_chart first (map full_chart charts) i full old c.take_chart.new.registry within at taken made before.1,
    )

pub returns-in_err-take_chart-clause-refused : goal.returns-in_err-take_chart-clause-refused
returns-in_err-take_chart-clause-refused c =
    let charts = c.args.charts.now in
    let i = c.loop-chart.chart-index in
    let chart = c.chart-item.result in
    let full = full_chart chart in
    let at : get_or (map full_chart charts) i full ≡ full = get_or-map_any full_chart charts i chart ∙ ap full_chart (sym c.chart-item.is) in
    let within : i < length (map full_chart charts) = omega (arith, c.loop-chart-test.true, length-map charts full_chart) in
    let old = c.loop-chart.registry in
    let error = err_from_is_err_and c.from_residual-in_err-take_chart.result c.from_residual-in_err-take_chart.ensures.1 in
    rw error.1 (λ next.
    steps-stop takes_chart with_chart c.args.registry.now (map full_chart charts) i full old within at
    (ap (takes_chart old) (sym c.in_ok-full.ensures) ∙ c.in_err-take_chart.ensures.refused (sym error.2 ∙ next)) c.loop-chart.invariant.1)

pub returns-clause-ok : goal.returns-clause-ok
returns-clause-ok c =
    let all : length (map full_chart c.args.charts.now) ≤ c.loop-chart.chart-index = omega (arith, c.loop-chart-test.false, length-map c.args.charts.now full_chart) in
    c.loop-chart.invariant.0 ∙ ap (with_charts c.args.registry.now) (take_all c.loop-chart.chart-index (map full_chart c.args.charts.now) all)

pub returns-clause-taken : goal.returns-clause-taken
returns-clause-taken c =
    let all : length (map full_chart c.args.charts.now) ≤ c.loop-chart.chart-index = omega (arith, c.loop-chart-test.false, length-map c.args.charts.now full_chart) in
    steps-all takes_chart with_chart c.args.registry.now (map full_chart c.args.charts.now) c.loop-chart.chart-index c.loop-chart.registry all c.loop-chart.invariant.1
