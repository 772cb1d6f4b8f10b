use Rattle.std.proofs.Common.{◌≡◌, map, take}
use Rattle.agent_core.specs.Sides.{stored_point}
use Rattle.agent_core.proofs.side.stored_points.Given as goal

abbrev pub invariant-loop-point : goal.invariant-loop-point
invariant-loop-point l = l.stored ≡ map stored_point (take l.point-index l.points)
