use Rattle.std.proofs.Common.{◌≡◌, ◌+◌, ◌<◌, filter, length, position, Some, None, is_some, sym, ap, ◌∙◌, arith}
use Rattle.history.specs.Refusal.{is_new_dimension}
use Rattle.history.specs.Registry.{is_dimension, series_of}
use Rattle.chart_registry.proofs.RegistryLemmas.{series_of-within}
use Rattle.beat_entries.specs.Rules.{with_beat}
use Rattle.beat_entries.proofs.ComingLemmas.{any-fresh_dimension, series-fresh, series-nowhere}
use Rattle.beat_entries.proofs.coming.Coming.fresh_series.Goals as goal

pub returns-in-Some-place_of-clause-found : goal.returns-in-Some-place_of-clause-found
returns-in-Some-place_of-clause-found c =
    let registry = c.args.self.now.registry.now in
    let beat = c.args.self.now.beat.now in
    let test = is_dimension c.args.chart.now c.args.id.now in
    let found = c.args.self.now.found c.in-Some.fresh c.in-Some.is in
    let at : position test (filter (is_new_dimension registry) beat.dimensions) ≡ Some c.in-Some-place_of.place = ap (position test) (sym found.dimensions) ∙ sym c.in-Some-place_of.ensures in
    sym (ap is_some at) ∙ any-fresh_dimension registry beat c.args.chart.now c.args.id.now c.requires

pub returns-in-Some-place_of-clause-series : goal.returns-in-Some-place_of-clause-series
returns-in-Some-place_of-clause-series c can =
    let registry = c.args.self.now.registry.now in
    let beat = c.args.self.now.beat.now in
    let chart = c.args.chart.now in
    let id = c.args.id.now in
    let place = c.in-Some-place_of.place in
    let test = is_dimension chart id in
    let found = c.args.self.now.found c.in-Some.fresh c.in-Some.is in
    let at : position test (filter (is_new_dimension registry) beat.dimensions) ≡ Some place = ap (position test) (sym found.dimensions) ∙ sym c.in-Some-place_of.ensures in
    let there : series_of (with_beat registry beat) chart id ≡ Some (length registry.dimensions + place) = series-fresh registry beat chart id c.requires can.apart_dimensions place at in
    let within : length registry.dimensions + place < length (with_beat registry beat).dimensions = series_of-within (with_beat registry beat) chart id (length registry.dimensions + place) there in
    let few = can.dimensions in
    let count = c.dimensions.ensures.value in
    ap Some (c.number_behind.ensures (omega (arith, count, within, few)) ∙ ap (λ n. n + place) count) ∙ sym there

pub returns-in-None-place_of-clause-found : goal.returns-in-None-place_of-clause-found
returns-in-None-place_of-clause-found c =
    let registry = c.args.self.now.registry.now in
    let beat = c.args.self.now.beat.now in
    let test = is_dimension c.args.chart.now c.args.id.now in
    let found = c.args.self.now.found c.in-Some.fresh c.in-Some.is in
    let at : position test (filter (is_new_dimension registry) beat.dimensions) ≡ None = ap (position test) (sym found.dimensions) ∙ sym c.in-None-place_of.ensures in
    sym (ap is_some at) ∙ any-fresh_dimension registry beat c.args.chart.now c.args.id.now c.requires

pub returns-in-None-place_of-clause-series : goal.returns-in-None-place_of-clause-series
returns-in-None-place_of-clause-series c can =
    let registry = c.args.self.now.registry.now in
    let beat = c.args.self.now.beat.now in
    let test = is_dimension c.args.chart.now c.args.id.now in
    let found = c.args.self.now.found c.in-Some.fresh c.in-Some.is in
    let at : position test (filter (is_new_dimension registry) beat.dimensions) ≡ None = ap (position test) (sym found.dimensions) ∙ sym c.in-None-place_of.ensures in
    sym (series-nowhere registry beat c.args.chart.now c.args.id.now c.requires can.apart_dimensions at)
