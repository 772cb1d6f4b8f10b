use Rattle.std.proofs.Common.{◌≡◌, ◌++◌, take}
use Rattle.std.specs.List.{flat_map}
use Rattle.store_core.specs.beats.Beats.{point_bytes}
use Rattle.store_core.proofs.beats.writing.put_points.Given as goal

abbrev pub invariant-loop-point : goal.invariant-loop-point
invariant-loop-point l = l.writer ≡ l.fn.writer ++ flat_map point_bytes (take l.point-index l.points)
