use Rattle.std.proofs.Common.{◌≤◌, ◌<◌, ◌^◌, to_z, of_z, to_z-of_z, rules, arith}
use Rattle.std.specs.Int.{w128}
use Rattle.tier_rollup.proofs.RollingLemmas.{added}
use Rattle.tier_rollup.proofs.roller.Roller.add.Goals as goal

pub returns-clause-rolled : goal.returns-clause-rolled
returns-clause-rolled c = λ points handed h next.
    let positive : 1 ≤ c.close_before-closed.new.self.width = c.close_before-closed.new.self.positive in
    let narrow : c.close_before-closed.new.self.width < 2 ^ 32 = first_of (search rules, omega arith) in
    added c.args.self.now.width c.close_before-closed.new.self.width
    (record { moment = c.args.moment; units = c.args.units; anomalous = c.args.anomalous })
    c.args.self.now.current c.close_before-closed.new.self.current c.close_before-closed.result c.with_point-grown.result
    (to_z w128 (of_z w128 c.args.units)) points handed
    c.close_before-closed.ensures.width c.close_before-closed.ensures.kept c.close_before-closed.ensures.closed
    positive narrow c.requires (to_z-of_z c.ranges.units) c.with_point-grown.ensures.none c.with_point-grown.ensures.some
    (c.close_before-closed.ensures.rolled points handed h) next
