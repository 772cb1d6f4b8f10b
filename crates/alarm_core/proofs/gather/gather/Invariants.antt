use Rattle.std.proofs.Common.{◌≡◌, ◌≤◌, take}
use Rattle.query_engine.proofs.Keeping.{Keeps}
use Rattle.alarm_core.specs.Gathering.{IsGathered}
use Rattle.alarm_core.proofs.gather.gather.Given as goal

abbrev pub invariant-loop-series : goal.invariant-loop-series
invariant-loop-series g l =
    Keeps (g.P.Points.tiers l.fn.points) (g.P.Points.tiers l.points) (g.P.Points.tells l.fn.points) (g.P.Points.tells l.points) (g.P.Points.held l.points ≡ g.P.Points.held l.fn.points) (g.P.Points.faults l.fn.points) (g.P.Points.faults l.points)
    (λ told. (g.P.Points.tiers l.fn.points).floor 0 ≤ l.window.start
    → IsGathered l.scene.registry.now l.lookup l.window.start l.window.stop told (take l.series-index l.scene.series.now) l.gathered)
