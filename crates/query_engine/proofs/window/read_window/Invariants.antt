use Rattle.std.proofs.Common.{◌≡◌, ◌≢◌, ℕ, ◌-◌, ◌%◌, ◌<◌, ◌≤◌, List}
use Rattle.tier_rollup.specs.declared.point.Point.{Point}
use Rattle.query_engine.specs.Points.{Tiers}
use Rattle.query_engine.specs.Windows.{record_between}
use Rattle.query_engine.proofs.window.read_window.Given as goal

-- the window is read up to a moment, and the object stands for what it did holds what it did and has not failed
pub record Reads (start from end seconds : ℕ) (grid : Type 0) (tiers now : Tiers) (told_before told_now : (ℕ → List Point) → Type 0) (read : (ℕ → List Point) → Type 0) (kept faults : Type 0) : Type 0 where
  pub low : start ≤ from
  pub high : from ≤ end
  pub on_grid : grid
  pub some : 0 < seconds
  pub same : now ≡ tiers
  pub still : (told : ℕ → List Point) → told_before told → told_now told
  pub record_so_far : (told : ℕ → List Point) → told_before told → read told
  pub holds : kept
  pub unfailed : faults

abbrev pub invariant-loop-from : goal.invariant-loop-from
invariant-loop-from g l =
    Reads l.start l.from l.end l.seconds (l.plan.tier ≢ 0 → l.from % l.plan.width ≡ 0) (g.P.Points.tiers l.fn.points) (g.P.Points.tiers l.points)
    (g.P.Points.tells l.fn.points) (g.P.Points.tells l.points)
    (λ told. l.plan.floor ≤ l.start → l.record ≡ record_between l.start l.from (told l.series))
    (g.P.Points.held l.points ≡ g.P.Points.held l.fn.points)
    (g.P.Points.faults l.points ≡ g.P.Points.faults l.fn.points)

abbrev pub decreases-loop-from : goal.decreases-loop-from
decreases-loop-from g l = l.end - l.from
