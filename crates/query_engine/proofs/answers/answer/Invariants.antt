use Rattle.std.proofs.Common.{◌≡◌, map}
use Rattle.std.specs.List.{range_with_len}
use Rattle.query_engine.specs.Windows.{row_of}
use Rattle.query_engine.proofs.Keeping.{Keeps}
use Rattle.query_engine.proofs.answers.answer.Given as goal

abbrev pub invariant-loop-i : goal.invariant-loop-i
invariant-loop-i g l =
    Keeps (g.P.Points.tiers l.fn.points) (g.P.Points.tiers l.points) (g.P.Points.tells l.fn.points) (g.P.Points.tells l.points) (g.P.Points.held l.points ≡ g.P.Points.held l.fn.points) (g.P.Points.faults l.fn.points) (g.P.Points.faults l.points)
    (λ told. l.rows ≡ map (row_of l.plan.floor told l.request) (range_with_len 0 l.i))
