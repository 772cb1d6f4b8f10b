use Rattle.std.proofs.Common.{◌≡◌, ◌<◌, ◌%◌, ℕ, List, length, get_or, sym, ap, subst}
use Rattle.query_engine.specs.Windows.{may_read}
use Rattle.query_engine.proofs.TierLemmas.{widths_are, lowest_is, may_parts}
use Rattle.query_engine.proofs.plan.plan_for.Goals as goal

pub returns-clause-plan : goal.returns-clause-plan
returns-clause-plan g c =
    let tiers = g.P.Points.tiers c.args.points.now in
    let tier = c.lowest_tier-tier.result in
    let positive : 0 < get_or tiers.widths tier 0 = (widths_are tiers.widths (g.met.P.Points.rising_widths c.args.points.now)).positive tier c.lowest_tier-tier.ensures.inside in
    let width : get_or c.widths.result.now tier 0 ≡ get_or tiers.widths tier 0 = ap (λ (ws : List ℕ). get_or ws tier 0) c.widths.ensures in
    record {
      inside = c.lowest_tier-tier.ensures.inside;
      width = width;
      positive = subst (λ n. 0 < n) (sym width) positive;
      floor = c.floor.ensures;
    }

pub returns-clause-tier : goal.returns-clause-tier
returns-clause-tier g c =
    let tiers = g.P.Points.tiers c.args.points.now in
    sym (lowest_is tiers.floor (may_read tiers.widths c.args.after c.args.window) (length tiers.widths) c.lowest_tier-tier.result c.lowest_tier-tier.ensures)

pub returns-clause-buckets : goal.returns-clause-buckets
returns-clause-buckets g c = λ not.
    let tiers = g.P.Points.tiers c.args.points.now in
    let tier = c.lowest_tier-tier.result in
    subst (λ (ws : List ℕ). (c.args.after % get_or ws tier 0 ≡ 0) × (c.args.window % get_or ws tier 0 ≡ 0)) (sym c.widths.ensures)
    (may_parts tiers.widths c.args.after c.args.window tier c.lowest_tier-tier.ensures.allowed not)
