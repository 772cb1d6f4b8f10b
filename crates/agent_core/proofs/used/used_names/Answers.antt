use Rattle.std.proofs.Common.{ℕ, ◌<◌, length, sym, ap, subst, ◌∙◌}
use Rattle.std.specs.List.{AllByRecursion}
use Rattle.agent_core.specs.Used.{has, Rise}
use Rattle.agent_core.proofs.UsedNumbers.{all-same}
use Rattle.agent_core.proofs.UsedRegistry.{names-used}
use Rattle.agent_core.proofs.used.used_names.Goals as goal

pub chart_names-requires : goal.chart_names-requires
chart_names-requires c =
    let IsChart : ℕ → Type 0 = λ number. number < length c.args.registry.now.charts in
    subst (AllByRecursion IsChart) (sym c.as_slice-numbers.ensures.value) (all-same IsChart c.in_ok-ordered.ordered.items c.in_ok-all.all.items c.in_ok-ordered.ensures.same c.in_ok-all.ensures.within)

pub dimension_names-requires-clause-charts : goal.dimension_names-requires-clause-charts
dimension_names-requires-clause-charts c = subst Rise (sym c.as_slice-numbers.ensures.value) c.in_ok-ordered.ensures.rise

pub returns-clause-names : goal.returns-clause-names
returns-clause-names c words same =
    let registry = c.args.registry.now in
    let numbers = c.as_slice-numbers.result.now in
    let numbers_are = c.as_slice-numbers.ensures.value in
    names-used registry words c.args.series.now c.requires.rise same numbers (subst Rise (sym numbers_are) c.in_ok-ordered.ensures.rise)
    (ap has numbers_are ∙ c.in_ok-ordered.ensures.same ∙ ap has c.in_ok-all.ensures.charts)
    c.in_ok-charts.charts c.in_ok-dimensions.dimensions c.in_ok-charts.ensures.names c.in_ok-dimensions.ensures.names
