use Rattle.std.proofs.Common.{◌≡◌, ◌<◌, length, map, subst, sym, ap, ◌∙◌}
use Rattle.std.specs.List.{AllByRecursion}
use Rattle.replication.specs.declared.names.DimName.{DimName}
use Rattle.replication.specs.Answer.{AreBeatsOf}
use Rattle.replication.specs.Marks.{AreMarks, ArePlaces}
use Rattle.replication.specs.Names.{words_of, uses, uses_chart, placed_dimension}
use Rattle.replication.specs.Places.{select}
use Rattle.replication.proofs.MarksCode.{places-own}
use Rattle.replication.proofs.answer.used_of.Goals as goal

pub used_dimensions-requires-clause-charts : goal.used_dimensions-requires-clause-charts
used_dimensions-requires-clause-charts c =
    let names = c.args.names.now in
    let words = words_of c.args.beats.now in
    let marks = subst (AreMarks (uses_chart names words) (length names.charts)) (sym c.as_slice-chart_marks.ensures.value) c.in_ok-marks.ensures.charts in
    let places = c.in_ok-new_charts.ensures.places (uses_chart names words) (length names.charts) marks in
    let size : length names.charts ≡ length c.as_slice-chart_places.result.now = sym (ap length c.as_slice-chart_places.ensures.value ∙ places.long) in
    subst (λ n. AllByRecursion (λ (d : DimName). d.chart < n) c.as_slice-all_dimensions.result.now) size
    (subst (AllByRecursion (λ (d : DimName). d.chart < length names.charts)) (sym c.as_slice-all_dimensions.ensures) c.requires.names)

pub placed_beats-requires-clause-series : goal.placed_beats-requires-clause-series
placed_beats-requires-clause-series c =
    let names = c.args.names.now in
    let words = words_of c.args.beats.now in
    let marks = subst (AreMarks (uses words) (length names.dimensions)) (sym c.as_slice-series_marks.ensures.value) c.in_ok-marks.ensures.dimensions in
    let places = c.in_ok-new_series.ensures.places (uses words) (length names.dimensions) marks in
    let size : length names.dimensions ≡ length c.as_slice-series_places.result.now = sym (ap length c.as_slice-series_places.ensures.value ∙ places.long) in
    subst (λ n. AreBeatsOf n c.args.beats.now) size c.requires.series

pub returns-clause-names : goal.returns-clause-names
returns-clause-names c =
    let names = c.args.names.now in
    let words = words_of c.args.beats.now in
    let chart_marks = subst (AreMarks (uses_chart names words) (length names.charts)) (sym c.as_slice-chart_marks.ensures.value) c.in_ok-marks.ensures.charts in
    let series_marks = subst (AreMarks (uses words) (length names.dimensions)) (sym c.as_slice-series_marks.ensures.value) c.in_ok-marks.ensures.dimensions in
    let places = places-own (uses_chart names words) (length names.charts) c.as_slice-chart_places.result.now
    (subst (ArePlaces (uses_chart names words) (length names.charts)) (sym c.as_slice-chart_places.ensures.value) (c.in_ok-new_charts.ensures.places (uses_chart names words) (length names.charts) chart_marks)) in
    let charts = c.in_ok-charts.ensures (uses_chart names words) (subst (λ all. AreMarks (uses_chart names words) (length all) c.as_slice-chart_marks.result.now) (sym c.as_slice-all_charts.ensures) chart_marks)
    ∙ ap (select (uses_chart names words) 0) c.as_slice-all_charts.ensures in
    let dimensions = c.in_ok-dimensions.ensures (uses words) (uses_chart names words) (subst (λ all. AreMarks (uses words) (length all) c.as_slice-series_marks.result.now) (sym c.as_slice-all_dimensions.ensures) series_marks) places
    ∙ ap (λ all. map (placed_dimension (uses_chart names words)) (select (uses words) 0 all)) c.as_slice-all_dimensions.ensures in
    λ i. record { charts = charts i; dimensions = dimensions i }

pub returns-clause-beats : goal.returns-clause-beats
returns-clause-beats c =
    let names = c.args.names.now in
    let words = words_of c.args.beats.now in
    let marks = subst (AreMarks (uses words) (length names.dimensions)) (sym c.as_slice-series_marks.ensures.value) c.in_ok-marks.ensures.dimensions in
    c.in_ok-placed.ensures (uses words) (places-own (uses words) (length names.dimensions) c.as_slice-series_places.result.now
    (subst (ArePlaces (uses words) (length names.dimensions)) (sym c.as_slice-series_places.ensures.value) (c.in_ok-new_series.ensures.places (uses words) (length names.dimensions) marks)))
