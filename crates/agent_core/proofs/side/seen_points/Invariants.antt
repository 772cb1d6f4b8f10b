use Rattle.std.proofs.Common.{◌≡◌, map, take}
use Rattle.std.specs.Option.{option_map}
use Rattle.agent_core.specs.Sides.{point_back}
use Rattle.agent_core.proofs.side.seen_points.Given as goal

abbrev pub invariant-loop-point : goal.invariant-loop-point
invariant-loop-point l = l.seen ≡ map (option_map point_back) (take l.point-index l.points)
