use Rattle.std.proofs.Common.{sym, ap, subst, ◌∙◌}
use Rattle.history.specs.Numbered.{numbered_charts, numbered_dimensions}
use Rattle.history.specs.Registry.{Registry, same_chart, same_dimension}
use Rattle.history.specs.Regular.{AreApart}
use Rattle.chart_registry.specs.Taking.{all_taken, takes_chart, takes_dimension, with_chart, with_charts, with_dimension, with_dimensions}
use Rattle.beat_entries.proofs.AfterLemmas.{charts-apart, dimensions-apart}
use Rattle.agent_core.specs.Rules.{HasLimits}
use Rattle.agent_core.proofs.LimitLemmas.{limits-after}
use Rattle.agent_core.proofs.Within.{names-tests}
use Rattle.agent_core.proofs.storing.define.Goals as goal

pub number_definitions-requires-clause-grids : goal.number_definitions-requires-clause-grids
number_definitions-requires-clause-grids c = (names-tests c.args.registry.now c.args.defs.now c.requires.free).0

pub number_definitions-requires-clause-few_charts : goal.number_definitions-requires-clause-few_charts
number_definitions-requires-clause-few_charts c = (names-tests c.args.registry.now c.args.defs.now c.requires.free).1

pub number_definitions-requires-clause-few_dimensions : goal.number_definitions-requires-clause-few_dimensions
number_definitions-requires-clause-few_dimensions c = (names-tests c.args.registry.now c.args.defs.now c.requires.free).2

pub take_definitions-requires-clause-charts : goal.take_definitions-requires-clause-charts
take_definitions-requires-clause-charts c = ap (all_taken takes_chart with_chart c.args.registry.now) c.as_slice-charts.ensures ∙ c.in_ok-definitions.ensures.takes_charts

pub take_definitions-requires-clause-dimensions : goal.take_definitions-requires-clause-dimensions
take_definitions-requires-clause-dimensions c =
    (λ i. all_taken takes_dimension with_dimension (with_charts c.args.registry.now (c.as_slice-charts.ensures i)) (c.as_slice-dimensions.ensures i)) ∙ c.in_ok-definitions.ensures.takes_dimensions

pub returns-clause-applied : goal.returns-clause-applied
returns-clause-applied c =
    c.in_ok-take_definitions.ensures.taken ∙ (λ i. with_dimensions (with_charts c.args.registry.now (c.as_slice-charts.ensures i)) (c.as_slice-dimensions.ensures i)) ∙ c.in_ok-definitions.ensures.taken

pub returns-clause-numbered_charts : goal.returns-clause-numbered_charts
returns-clause-numbered_charts c =
    c.in_ok-definitions.ensures.charts ∙ ap (λ (r : Registry). numbered_charts r c.args.defs.now) (sym (returns-clause-applied c))

pub returns-clause-numbered_dimensions : goal.returns-clause-numbered_dimensions
returns-clause-numbered_dimensions c =
    c.in_ok-definitions.ensures.dimensions ∙ ap (λ (r : Registry). numbered_dimensions r c.args.defs.now) (sym (returns-clause-applied c))

pub returns-clause-within : goal.returns-clause-within
returns-clause-within c = c.in_ok-definitions.ensures.limits 0

pub returns-clause-canonical : goal.returns-clause-canonical
returns-clause-canonical c = c.in_ok-definitions.ensures.canonical 0

pub returns-clause-charts : goal.returns-clause-charts
returns-clause-charts c =
    subst (λ (r : Registry). AreApart same_chart r.charts) (sym (returns-clause-applied c)) (charts-apart c.args.registry.now c.args.defs.now c.requires.charts)

pub returns-clause-dimensions : goal.returns-clause-dimensions
returns-clause-dimensions c =
    subst (λ (r : Registry). AreApart same_dimension r.dimensions) (sym (returns-clause-applied c)) (dimensions-apart c.args.registry.now c.args.defs.now c.requires.dimensions)

pub returns-clause-limits : goal.returns-clause-limits
returns-clause-limits c =
    let tests = names-tests c.args.registry.now c.args.defs.now c.requires.free in
    subst HasLimits (sym (returns-clause-applied c)) (limits-after c.args.registry.now c.requires.limits c.args.defs.now c.requires.is_open tests.1 tests.2)
