use Rattle.std.proofs.Common.{sym}
use Rattle.beat_entries.proofs.Gathering.{gathered-more}
use Rattle.agent_core.specs.Copying.{defined_dimension}
use Rattle.agent_core.proofs.copying.defined_dimensions.Goals as goal

pub loop-dimension-preserved : goal.loop-dimension-preserved
loop-dimension-preserved c =
    gathered-more (defined_dimension c.args.names.now) c.args.dimensions.now c.loop-dimension.dimension-index c.dimension-item.result c.loop-dimension.made.items c.push_dimension.new.dimensions.items
    c.loop-dimension-test.true (sym c.dimension-item.is) c.in_ok-push_dimension.ensures c.loop-dimension.invariant
