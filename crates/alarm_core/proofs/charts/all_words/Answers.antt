use Rattle.std.proofs.Common.{◌<◌, [], ◌∷◌, ◌++◌, List, length, map, take, sym, ap, ◌∙◌, arith}
use Rattle.std.proofs.lemmas.Option.{get_or_from_slice_get}
use Rattle.alarm_core.specs.declared.charts.ChartWords.{ChartWords}
use Rattle.alarm_core.specs.Charts.{words_of}
use Rattle.alarm_core.proofs.ChartLemmas.{map_more}
use Rattle.alarm_core.proofs.charts.all_words.Goals as goal

pub loop-chart-preserved : goal.loop-chart-preserved
loop-chart-preserved c =
    let charts = c.args.registry.now.charts in
    let chart = c.loop-chart.chart in
    let def = c.chart.result.now in
    let inside : chart < length charts = omega (arith, c.loop-chart-test.true, c.charts-chart-end.ensures.value) in
    c.in_ok-push.ensures
    ∙ ap (λ (words : List ChartWords). words ++ c.in_ok-one.one ∷ []) c.loop-chart.invariant
    ∙ ap (λ (one : ChartWords). map words_of (take chart charts) ++ one ∷ []) (c.in_ok-one.ensures ∙ ap words_of (sym (get_or_from_slice_get charts chart def def c.chart.ensures.value)))
    ∙ sym (map_more words_of charts chart def inside)
