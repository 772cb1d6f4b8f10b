use Rattle.std.proofs.Common.{◌<◌, length, refl, ap, ◌∙◌, arith}
use Rattle.std.proofs.lemmas.Option.{get_or_from_slice_get}
use Rattle.alarm_core.specs.Charts.{words_of}
use Rattle.alarm_core.proofs.ChartLemmas.{words_more}
use Rattle.alarm_core.proofs.charts.have_words.Goals as goal

pub loop-chart-preserved : goal.loop-chart-preserved
loop-chart-preserved c =
    let charts = c.args.registry.now.charts in
    let words = c.args.words.now in
    let chart = c.loop-chart.chart in
    let inside : chart < length charts = omega (arith, c.loop-chart-test.true, c.charts-chart-end.ensures.value) in
    let too : chart < length words = omega (arith, c.loop-chart-test.true, c.charts-chart-end.ensures.value, c.charts.ensures.value, c.if-words-charts.false) in
    words_more words_of charts words chart c.chart.result.now c.index-words-chart.result inside too c.loop-chart.invariant
    (ap words_of (get_or_from_slice_get charts chart c.chart.result.now c.chart.result.now c.chart.ensures.value) ∙ c.if-not-has_words.ensures.0 refl ∙ c.index-words-chart.is)
