use Rattle.std.proofs.Common.{◌+◌, ◌<◌, length, get_or, cond, ap, ◌∙◌}
use Rattle.replication.specs.declared.names.DimName.{DimName}
use Rattle.replication.proofs.MarksCode.{all-index, get_at, marked, sized}
use Rattle.replication.proofs.marks.Marks.take.Goals as goal

pub returns-clause-marks : goal.returns-clause-marks
returns-clause-marks c =
    let names = c.args.names.now in
    let word = c.args.word.now in
    let x = c.index-dimensions-series.result in
    let at = c.index-dimensions-series.is ∙ ap (λ xs. get_or xs word.series x) c.as_slice-dimensions.ensures in
    let lt = c.requires.series in
    let lt_chart = all-index (λ (d : DimName). d.chart < length names.charts) names.dimensions word.series x c.requires.names lt at in
    λ words are. marked names words _ _ word x (get_at names.dimensions word.series x lt at) lt lt_chart c.mark-is_new.ensures.marks c.mark-is_new_chart.ensures.marks are

pub returns-clause-size : goal.returns-clause-size
returns-clause-size c =
    let names = c.args.names.now in
    let word = c.args.word.now in
    let x = c.index-dimensions-series.result in
    let at = c.index-dimensions-series.is ∙ ap (λ xs. get_or xs word.series x) c.as_slice-dimensions.ensures in
    let lt = c.requires.series in
    let lt_chart = all-index (λ (d : DimName). d.chart < length names.charts) names.dimensions word.series x c.requires.names lt at in
    let y = c.index-charts-place.result in
    let y_at = c.index-charts-place.is ∙ ap (λ ys. get_or ys x.chart y) c.as_slice-charts.ensures in
    λ words are. sized names words _ word x y c.size_if-first.result c.size_if-second.result (get_at names.dimensions word.series x lt at) (get_at names.charts x.chart y lt_chart y_at) lt lt_chart
    (c.size_if-first.ensures.value ∙ (λ i. cond (c.mark-is_new.ensures.new i) (7 + c.len-own_len.ensures i) 0))
    (c.size_if-second.ensures.value ∙ (λ i. cond (c.mark-is_new_chart.ensures.new i) (8 + c.len-id_len.ensures i + c.len-context_len.ensures i) 0)) are
