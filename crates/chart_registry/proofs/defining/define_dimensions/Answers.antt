use Rattle.std.proofs.Common.{sym}
use Rattle.chart_registry.specs.Taking.{takes_dimension, with_dimension}
use Rattle.chart_registry.proofs.ChangesLemmas.{changes-same}
use Rattle.chart_registry.proofs.Steps.{steps-more, steps-next}
use Rattle.chart_registry.proofs.TakenLemmas.{dimensions-pushed}
use Rattle.chart_registry.proofs.defining.define_dimensions.Goals as goal

pub define_dimension-requires : goal.define_dimension-requires
define_dimension-requires c =
    steps-next takes_dimension with_dimension c.args.registry.now c.args.dimensions.now c.loop-dimension.dimension-index c.dimension-item.result c.loop-dimension.registry c.loop-dimension-test.true (sym c.dimension-item.is)
    c.loop-dimension.invariant.taken c.requires

pub loop-dimension-preserved : goal.loop-dimension-preserved
loop-dimension-preserved c =
    let first = c.args.registry.now in
    let dimensions = c.args.dimensions.now in
    let i = c.loop-dimension.dimension-index in
    let dimension = c.dimension-item.result in
    let at = sym c.dimension-item.is in
    let within = c.loop-dimension-test.true in
    let made = c.in_ok-define_dimension.ensures.ok in record {
      made = dimensions-pushed first c.loop-dimension.registry c.define_dimension.new.registry dimensions i dimension within at c.loop-dimension.invariant.made made;
      taken = steps-more takes_dimension with_dimension first dimensions i dimension c.loop-dimension.registry c.define_dimension.new.registry within at (steps-next takes_dimension with_dimension first dimensions i dimension c.loop-dimension.registry within at c.loop-dimension.invariant.taken c.requires) made c.loop-dimension.invariant.taken;
      noted = λ before are. c.in_ok-define_dimension.ensures.noted before (c.loop-dimension.invariant.noted before are);
    }

pub returns-in_err-define_dimension-clause-noted : goal.returns-in_err-define_dimension-clause-noted
returns-in_err-define_dimension-clause-noted c = λ before are.
    changes-same before c.loop-dimension.registry c.define_dimension.new.registry _ _ c.in_err-define_dimension.ensures.err c.in_err-define_dimension.ensures.unnoted (c.loop-dimension.invariant.noted before are)
