use Rattle.std.proofs.Common.{ℕ, ◌<◌, List, get_or, arith, sym, subst}
use Rattle.std.proofs.lemmas.Bool.{both_ways}
use Rattle.query_engine.specs.Windows.{may_read}
use Rattle.query_engine.proofs.TierLemmas.{widths_are, divided, lowest_left, may_not}
use Rattle.query_engine.proofs.plan.lower_tier.Goals as goal
use Rattle.query_engine.proofs.plan.lower_tier.Goals.{else-divides-via-then-divides+else-floor, else-divides-via-else-divides}

pub divides-requires : goal.divides-requires
divides-requires g c =
    let tiers = g.P.Points.tiers c.args.points.now in
    subst (λ (widths : List ℕ). 0 < get_or widths c.args.other 0) (sym c.widths.ensures)
    ((widths_are tiers.widths (g.met.P.Points.rising_widths c.args.points.now)).positive c.args.other c.requires.inside)

pub returns-else-divides : goal.returns-else-divides
returns-else-divides g c =
    let tiers = g.P.Points.tiers c.args.points.now in
    let may = may_read tiers.widths c.args.after c.args.window in
    elim c.else-divides.branch [
      | else-divides-via-then-divides+else-floor w ↦
          lowest_left tiers.floor may c.args.other c.args.tier c.requires.lowest
          (λ yes. omega (arith, w.if-floor.false, w.floor.ensures, w.floor-then-divides.ensures))
      | else-divides-via-else-divides w ↦
          lowest_left tiers.floor may c.args.other c.args.tier c.requires.lowest
          (λ yes. absurd (both_ways (may c.args.other)
          (may_not tiers.widths c.args.after c.args.window c.args.other c.requires.first
          (divided tiers.widths c.widths.result.now c.args.after c.args.window c.args.other c.divides.result c.widths.ensures c.divides.ensures w.if-divides.false))
          yes))
    ]
