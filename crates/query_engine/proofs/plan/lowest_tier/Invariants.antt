use Rattle.query_engine.specs.Planning.{IsLowestTier}
use Rattle.query_engine.specs.Windows.{may_read}
use Rattle.query_engine.proofs.plan.lowest_tier.Given as goal

abbrev pub invariant-loop-other : goal.invariant-loop-other
invariant-loop-other g l =
    IsLowestTier (g.P.Points.tiers l.points).floor (may_read (g.P.Points.tiers l.points).widths l.after l.window) l.other l.tier
