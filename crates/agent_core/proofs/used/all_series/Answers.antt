use Rattle.agent_core.proofs.UsedRegistry.{beats-more}
use Rattle.agent_core.proofs.used.all_series.Goals as goal

pub loop-beat-preserved : goal.loop-beat-preserved
loop-beat-preserved c =
    beats-more c.args.beats.now c.loop-beat.beat-index c.beat-item.result c.as_slice.result.now c.loop-beat.numbers.items c.add_series.new.numbers.items c.loop-beat-test.true c.beat-item.is
    c.as_slice.ensures c.in_ok-add_series.ensures c.loop-beat.invariant
