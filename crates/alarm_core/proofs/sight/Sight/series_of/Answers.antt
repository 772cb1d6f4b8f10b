use Rattle.std.proofs.Common.{◌≡◌, List, ℕ, length, ap, ◌∙◌, arith}
use Rattle.alarm_core.specs.Series.{series_of_chart}
use Rattle.alarm_core.proofs.TableLemmas.{length_range, table_at}
use Rattle.alarm_core.proofs.SeriesLemmas.{chart_count}
use Rattle.alarm_core.proofs.sight.Sight.series_of.Goals as goal

pub bounds-self-chart : goal.bounds-self-chart
bounds-self-chart c =
    omega (
      arith,
      c.requires,
      ap (λ (lists : List (List ℕ)). length lists) c.args.self.now.whole,
      length_range (series_of_chart c.args.self.now.registry.now) 0 (length c.args.self.now.registry.now.charts),
    )

pub returns-clause-series : goal.returns-clause-series
returns-clause-series c =
    c.as_slice.ensures ∙ table_at c.args.self.now.registry.now c.args.self.now.series.now c.args.chart c.index-self-chart.result c.requires c.args.self.now.whole

pub returns-clause-few : goal.returns-clause-few
returns-clause-few c =
    let is : c.as_slice.result.now ≡ series_of_chart c.args.self.now.registry.now c.args.chart =
    c.as_slice.ensures ∙ table_at c.args.self.now.registry.now c.args.self.now.series.now c.args.chart c.index-self-chart.result c.requires c.args.self.now.whole in
    omega (arith, ap (λ (series : List ℕ). length series) is, chart_count c.args.self.now.registry.now c.args.chart, c.dimensions_of-few.ensures.value, c.dimensions_of-few.ensures.few)
