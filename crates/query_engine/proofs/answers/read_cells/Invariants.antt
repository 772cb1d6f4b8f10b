use Rattle.std.proofs.Common.{◌≡◌, map, take}
use Rattle.query_engine.specs.Windows.{cell}
use Rattle.query_engine.proofs.Keeping.{Keeps}
use Rattle.query_engine.proofs.answers.read_cells.Given as goal

abbrev pub invariant-loop-one : goal.invariant-loop-one
invariant-loop-one g l =
    Keeps (g.P.Points.tiers l.fn.points) (g.P.Points.tiers l.points) (g.P.Points.tells l.fn.points) (g.P.Points.tells l.points) (g.P.Points.held l.points ≡ g.P.Points.held l.fn.points) (g.P.Points.faults l.fn.points) (g.P.Points.faults l.points)
    (λ told. l.cells ≡ map (λ one. cell l.group l.plan.floor l.start l.window (told one)) (take l.one-index l.series))
