use Rattle.std.proofs.Common.{◌≡◌, ◌++◌, take}
use Rattle.std.specs.List.{flat_map}
use Rattle.std.specs.String.{string_bytes}
use Rattle.point_lines.specs.Told.{series_line}
use Rattle.point_lines.proofs.telling.push_points.Given as goal

abbrev pub invariant-loop-point : goal.invariant-loop-point
invariant-loop-point l =
    string_bytes l.out ≡ string_bytes l.fn.out ++ flat_map (series_line l.registry l.moment) (take l.point-index l.points)
