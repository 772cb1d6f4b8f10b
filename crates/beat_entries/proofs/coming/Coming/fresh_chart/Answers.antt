use Rattle.std.proofs.Common.{◌≡◌, ◌+◌, ◌<◌, filter, find, length, position, Some, None, is_some, refl, sym, ap, ◌∙◌, arith}
use Rattle.std.specs.List.{list_any}
use Rattle.std.specs.Option.{option_map}
use Rattle.list_lemmas.proofs.Searches.{some-map}
use Rattle.history.specs.declared.chart.ChartDef.{ChartDef}
use Rattle.history.specs.Refusal.{is_new_chart}
use Rattle.history.specs.Registry.{chart_of, is_chart}
use Rattle.chart_registry.proofs.RegistryLemmas.{chart_of-within}
use Rattle.chart_registry.proofs.TablesLemmas.{find-nowhere, find-place}
use Rattle.beat_entries.specs.Rules.{with_beat}
use Rattle.beat_entries.proofs.ComingLemmas.{any-fresh, chart-fresh, chart-nowhere, find-fresh}
use Rattle.beat_entries.proofs.EntryLemmas.{any-find}
use Rattle.beat_entries.proofs.coming.Coming.fresh_chart.Goals as goal

pub returns-in-Some-place_of-clause-found : goal.returns-in-Some-place_of-clause-found
returns-in-Some-place_of-clause-found c =
    let registry = c.args.self.now.registry.now in
    let beat = c.args.self.now.beat.now in
    let found = c.args.self.now.found c.in-Some.fresh c.in-Some.is in
    let at : position (is_chart c.args.id.now) (filter (is_new_chart registry) beat.charts) ≡ Some c.in-Some-place_of.place
    = ap (position (is_chart c.args.id.now)) (sym found.charts) ∙ sym c.in-Some-place_of.ensures in
    sym (ap is_some at) ∙ any-fresh registry beat c.args.id.now c.requires

pub returns-in-Some-place_of-clause-number : goal.returns-in-Some-place_of-clause-number
returns-in-Some-place_of-clause-number c can =
    let registry = c.args.self.now.registry.now in
    let beat = c.args.self.now.beat.now in
    let id = c.args.id.now in
    let place = c.in-Some-place_of.place in
    let found = c.args.self.now.found c.in-Some.fresh c.in-Some.is in
    let at : position (is_chart id) (filter (is_new_chart registry) beat.charts) ≡ Some place = ap (position (is_chart id)) (sym found.charts) ∙ sym c.in-Some-place_of.ensures in
    let there : chart_of (with_beat registry beat) id ≡ Some (length registry.charts + place) = chart-fresh registry beat id c.requires can.apart_charts place at in
    let within : length registry.charts + place < length (with_beat registry beat).charts = chart_of-within (with_beat registry beat) id (length registry.charts + place) there in
    let few = can.charts in
    let count = c.charts.ensures.value in
    ap Some (c.number_behind.ensures (omega (arith, count, within, few)) ∙ ap (λ n. n + place) count) ∙ sym there

pub returns-in-Some-place_of-clause-grid : goal.returns-in-Some-place_of-clause-grid
returns-in-Some-place_of-clause-grid c =
    let registry = c.args.self.now.registry.now in
    let beat = c.args.self.now.beat.now in
    let id = c.args.id.now in
    let items = c.as_slice.result.now in
    let def = c.index-as_slice-place.result in
    let found = c.args.self.now.found c.in-Some.fresh c.in-Some.is in
    let at : position (is_chart id) items ≡ Some c.in-Some-place_of.place = ap (position (is_chart id)) c.as_slice.ensures ∙ sym c.in-Some-place_of.ensures in
    ap (λ (def : ChartDef). Some def.update_every) (sym c.index-as_slice-place.is)
    ∙ ap (option_map (λ (def : ChartDef). def.update_every))
    (sym (find-place (is_chart id) items c.in-Some-place_of.place at def c.index-as_slice-place.is) ∙ ap (find (is_chart id)) (c.as_slice.ensures ∙ found.charts) ∙ find-fresh registry beat id c.requires)

pub returns-in-None-place_of-clause-found : goal.returns-in-None-place_of-clause-found
returns-in-None-place_of-clause-found c =
    let registry = c.args.self.now.registry.now in
    let beat = c.args.self.now.beat.now in
    let found = c.args.self.now.found c.in-Some.fresh c.in-Some.is in
    let at : position (is_chart c.args.id.now) (filter (is_new_chart registry) beat.charts) ≡ None
    = ap (position (is_chart c.args.id.now)) (sym found.charts) ∙ sym c.in-None-place_of.ensures in
    sym (ap is_some at) ∙ any-fresh registry beat c.args.id.now c.requires

pub returns-in-None-place_of-clause-number : goal.returns-in-None-place_of-clause-number
returns-in-None-place_of-clause-number c can =
    let registry = c.args.self.now.registry.now in
    let beat = c.args.self.now.beat.now in
    let found = c.args.self.now.found c.in-Some.fresh c.in-Some.is in
    let at : position (is_chart c.args.id.now) (filter (is_new_chart registry) beat.charts) ≡ None
    = ap (position (is_chart c.args.id.now)) (sym found.charts) ∙ sym c.in-None-place_of.ensures in
    sym (chart-nowhere registry beat c.args.id.now c.requires can.apart_charts at)

pub returns-in-None-place_of-clause-grid : goal.returns-in-None-place_of-clause-grid
returns-in-None-place_of-clause-grid c =
    let registry = c.args.self.now.registry.now in
    let beat = c.args.self.now.beat.now in
    let id = c.args.id.now in
    let fresh = filter (is_new_chart registry) beat.charts in
    let found = c.args.self.now.found c.in-Some.fresh c.in-Some.is in
    let at : position (is_chart id) fresh ≡ None = ap (position (is_chart id)) (sym found.charts) ∙ sym c.in-None-place_of.ensures in
    sym (ap (option_map (λ (def : ChartDef). def.update_every)) (sym (find-fresh registry beat id c.requires) ∙ find-nowhere (is_chart id) fresh at))

pub returns-in-Some-defined_update_every-clause-found : goal.returns-in-Some-defined_update_every-clause-found
returns-in-Some-defined_update_every-clause-found c =
    let test = is_chart c.args.id.now in
    let charts = c.as_slice-in-None.result.now in
    ap is_some c.in-Some-defined_update_every.ensures ∙ some-map (λ (def : ChartDef). def.update_every) (find test charts)
    ∙ sym (any-find test charts (find test charts) refl) ∙ ap (list_any test) c.as_slice-in-None.ensures

pub returns-in-None-defined_update_every-clause-found : goal.returns-in-None-defined_update_every-clause-found
returns-in-None-defined_update_every-clause-found c =
    let test = is_chart c.args.id.now in
    let charts = c.as_slice-in-None.result.now in
    ap is_some c.in-None-defined_update_every.ensures ∙ some-map (λ (def : ChartDef). def.update_every) (find test charts)
    ∙ sym (any-find test charts (find test charts) refl) ∙ ap (list_any test) c.as_slice-in-None.ensures
