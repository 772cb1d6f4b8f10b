use Rattle.std.proofs.Common.{◌≤◌, length, arith, ap}
use Rattle.query_engine.proofs.TierLemmas.{widths_are}
use Rattle.query_engine.proofs.plan.lowest_tier.Goals as goal

pub overflow_cast-other : goal.overflow_cast-other
overflow_cast-other g c =
    let tiers = g.P.Points.tiers c.args.points.now in
    let few : length tiers.widths ≤ 256 = (widths_are tiers.widths (g.met.P.Points.rising_widths c.args.points.now)).few in
    omega (arith, few, ap length c.widths-other-end.ensures, c.loop-other-test.true)
