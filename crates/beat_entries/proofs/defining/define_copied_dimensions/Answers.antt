use Rattle.std.proofs.Common.{◌≡◌, ◌<◌, ◌≤◌, false, true, length, map, get_or, sym, ap, ◌∙◌, arith}
use Rattle.std.proofs.lemmas.List.{length-map, take_all}
use Rattle.std.proofs.lemmas.Result.{err_from_is_err_and}
use Rattle.chart_registry.specs.Taking.{takes_dimension, with_dimension, with_dimensions}
use Rattle.chart_registry.proofs.Places.{get_or-map_any}
use Rattle.chart_registry.proofs.Steps.{steps-all, steps-more, steps-stop}
use Rattle.chart_registry.proofs.TakenLemmas.{dimensions-pushed}
use Rattle.beat_entries.specs.Copied.{full_dimension}
use Rattle.beat_entries.proofs.defining.define_copied_dimensions.Goals as goal

pub loop-dimension-preserved : goal.loop-dimension-preserved
loop-dimension-preserved c =
    let first = c.args.registry.now in
    let dimensions = c.args.dimensions.now in
    let i = c.loop-dimension.dimension-index in
    let dimension = c.dimension-item.result in
    let full = full_dimension dimension in
    let at : get_or (map full_dimension dimensions) i full ≡ full = get_or-map_any full_dimension dimensions i dimension ∙ ap full_dimension (sym c.dimension-item.is) in
    let within : i < length (map full_dimension dimensions) = omega (arith, c.loop-dimension-test.true, length-map dimensions full_dimension) in
    let old = c.loop-dimension.registry in
    let made = c.in_ok-take_dimension.ensures.ok ∙ ap (with_dimension old) c.in_ok-full.ensures in
    let taken : takes_dimension old full ≡ true = ap (takes_dimension old) (sym c.in_ok-full.ensures) ∙ c.in_ok-take_dimension.ensures.taken in
    let before = c.loop-dimension.invariant in (
      dimensions-pushed first old c.take_dimension.new.registry (map full_dimension dimensions) i full within at before.0 made,
      steps-more takes_dimension with_dimension first (map full_dimension dimensions) i full old c.take_dimension.new.registry within at taken made before.1,
    )

pub returns-in_err-take_dimension-clause-refused : goal.returns-in_err-take_dimension-clause-refused
returns-in_err-take_dimension-clause-refused c =
    let dimensions = c.args.dimensions.now in
    let i = c.loop-dimension.dimension-index in
    let dimension = c.dimension-item.result in
    let full = full_dimension dimension in
    let at : get_or (map full_dimension dimensions) i full ≡ full = get_or-map_any full_dimension dimensions i dimension ∙ ap full_dimension (sym c.dimension-item.is) in
    let within : i < length (map full_dimension dimensions) = omega (arith, c.loop-dimension-test.true, length-map dimensions full_dimension) in
    let old = c.loop-dimension.registry in
    let error = err_from_is_err_and c.from_residual-in_err-take_dimension.result c.from_residual-in_err-take_dimension.ensures.1 in
    rw error.1 (λ next.
    steps-stop takes_dimension with_dimension c.args.registry.now (map full_dimension dimensions) i full old within at
    (ap (takes_dimension old) (sym c.in_ok-full.ensures) ∙ c.in_err-take_dimension.ensures.refused (sym error.2 ∙ next)) c.loop-dimension.invariant.1)

pub returns-clause-ok : goal.returns-clause-ok
returns-clause-ok c =
    let all : length (map full_dimension c.args.dimensions.now) ≤ c.loop-dimension.dimension-index = omega (arith, c.loop-dimension-test.false, length-map c.args.dimensions.now full_dimension) in
    c.loop-dimension.invariant.0 ∙ ap (with_dimensions c.args.registry.now) (take_all c.loop-dimension.dimension-index (map full_dimension c.args.dimensions.now) all)

pub returns-clause-taken : goal.returns-clause-taken
returns-clause-taken c =
    let all : length (map full_dimension c.args.dimensions.now) ≤ c.loop-dimension.dimension-index = omega (arith, c.loop-dimension-test.false, length-map c.args.dimensions.now full_dimension) in
    steps-all takes_dimension with_dimension c.args.registry.now (map full_dimension c.args.dimensions.now) c.loop-dimension.dimension-index c.loop-dimension.registry all c.loop-dimension.invariant.1
