use Rattle.std.proofs.Common.{arith}
use Rattle.alarm_core.proofs.RunLemmas.{run_short}
use Rattle.alarm_core.proofs.runs.runs_of.Goals as goal

pub with_pair-requires : goal.with_pair-requires
with_pair-requires c =
    omega (arith, run_short c.loop-pair.runs c.loop-pair.run c.args.pairs.now c.loop-pair.pair-index c.loop-pair.invariant.alarms, c.loop-pair-test.true)
