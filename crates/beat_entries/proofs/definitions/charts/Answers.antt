use Rattle.std.proofs.Common.{◌≡◌, List, Some, IsSome, ap, subst, ◌∙◌}
use Rattle.std.specs.List.{find, filter_map}
use Rattle.std.specs.List.Sorted.{IsPermutation, IsNonDecreasingBy}
use Rattle.std.proofs.lemmas.List.Elements.{All-same, All-weaker}
use Rattle.chart_registry.proofs.Places.{list_any-position}
use Rattle.history.specs.declared.chart.ChartDef.{ChartDef}
use Rattle.history.specs.declared.numbered.NumberedChart.{NumberedChart}
use Rattle.history.specs.Numbered.{numbered_charts}
use Rattle.history.specs.Registry.{is_chart, chart_of}
use Rattle.beat_entries.specs.Gathered.{chart_at}
use Rattle.beat_entries.specs.Rules.{with_beat}
use Rattle.beat_entries.proofs.EntryLemmas.{any-find, charts-are, ok-both}
use Rattle.beat_entries.proofs.definitions.charts.Goals as goal

pub returns : goal.returns
returns c =
    let registry = with_beat c.args.coming.now.registry.now c.args.coming.now.beat.now in
    let beat = c.args.beat.now in
    let items = c.in_ok-gather_charts.field-0.items in
    let gathered : items ≡ filter_map (chart_at registry) beat.charts = c.in_ok-gather_charts.ensures ∙ ap (filter_map (chart_at registry)) c.as_slice.ensures in
    ok-both (λ (list : List NumberedChart). IsPermutation items list) (λ (list : List NumberedChart). IsNonDecreasingBy (λ (item : NumberedChart). item.number) list) (λ (list : List NumberedChart). list ≡ numbered_charts registry beat)
    (λ list same up. charts-are registry beat c.requires.defined list (subst (λ (all : List NumberedChart). IsPermutation all list) gathered same) up) c.sort_charts.result c.sort_charts.ensures.same c.sort_charts.ensures.rises

pub gather_charts-requires-clause-charts : goal.gather_charts-requires-clause-charts
gather_charts-requires-clause-charts c =
    let registry = with_beat c.args.coming.now.registry.now c.args.coming.now.beat.now in
    let beat = c.args.beat.now in
    let IsNumbered = λ (def : ChartDef). IsSome (chart_of registry def.id) in
    All-same IsNumbered c.as_slice.result.now beat.charts c.as_slice.ensures
    (All-weaker (λ (def : ChartDef). find (is_chart def.id) registry.charts ≡ Some def) IsNumbered
    (λ def there. list_any-position (is_chart def.id) registry.charts ∙ any-find (is_chart def.id) registry.charts (Some def) there) beat.charts c.requires.defined.charts)
