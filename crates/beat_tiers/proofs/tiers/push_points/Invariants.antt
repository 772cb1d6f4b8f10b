use Rattle.std.proofs.Common.{◌≡◌, ◌-◌, take}
use Rattle.beat_tiers.specs.Segments.{with_items}
use Rattle.beat_tiers.specs.State.{point_items}
use Rattle.beat_tiers.proofs.tiers.push_points.Given as goal

abbrev pub invariant-loop-point : goal.invariant-loop-point
invariant-loop-point l =
    l.segments
    ≡ record l.fn.segments {
      kept = with_items l.fn.segments.kept (point_items l.moment (take l.point-index l.points));
      items = l.fn.segments.items - l.point-index;
    }
