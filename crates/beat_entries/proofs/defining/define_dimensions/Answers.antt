use Rattle.std.proofs.Common.{sym, ◌∙◌}
use Rattle.std.proofs.lemmas.Result.{err_from_is_err_and}
use Rattle.chart_registry.specs.Taking.{takes_dimension, with_dimension}
use Rattle.chart_registry.proofs.TakenLemmas.{dimensions-pushed}
use Rattle.chart_registry.proofs.Steps.{steps-more, steps-stop}
use Rattle.beat_entries.proofs.defining.define_dimensions.Goals as goal

pub loop-dimension-preserved : goal.loop-dimension-preserved
loop-dimension-preserved c =
    let first = c.args.registry.now in
    let dimensions = c.args.dimensions.now in
    let i = c.loop-dimension.dimension-index in
    let dimension = c.dimension-item.result in
    let at = sym c.dimension-item.is in
    let within = c.loop-dimension-test.true in
    let before = c.loop-dimension.invariant in (
      dimensions-pushed first c.loop-dimension.registry c.take_dimension.new.registry dimensions i dimension within at before.0 c.in_ok-take_dimension.ensures.ok,
      steps-more takes_dimension with_dimension first dimensions i dimension c.loop-dimension.registry c.take_dimension.new.registry within at c.in_ok-take_dimension.ensures.taken c.in_ok-take_dimension.ensures.ok before.1,
    )

pub returns-in_err-take_dimension-clause-refused : goal.returns-in_err-take_dimension-clause-refused
returns-in_err-take_dimension-clause-refused c =
    let error = err_from_is_err_and c.from_residual.result c.from_residual.ensures.1 in
    rw error.1 (λ next. steps-stop takes_dimension with_dimension c.args.registry.now c.args.dimensions.now c.loop-dimension.dimension-index c.dimension-item.result c.loop-dimension.registry
    c.loop-dimension-test.true (sym c.dimension-item.is) (c.in_err-take_dimension.ensures.refused (sym error.2 ∙ next)) c.loop-dimension.invariant.1)
