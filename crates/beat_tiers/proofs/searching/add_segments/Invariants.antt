use Rattle.std.proofs.Common.{◌≡◌, ◌++◌, take, flat_map}
use Rattle.std.specs.List.{filter_map}
use Rattle.beat_tiers.specs.declared.item.Stepped.{Stepped}
use Rattle.beat_tiers.specs.declared.parts.Segment.{Segment}
use Rattle.beat_tiers.specs.State.{point_at}
use Rattle.beat_tiers.specs.Tiers.{AreOrdered}
use Rattle.beat_tiers.proofs.searching.add_segments.Given as goal

abbrev pub invariant-loop-segment : goal.invariant-loop-segment
invariant-loop-segment l = AreOrdered (flat_map (λ (segment : Segment Stepped). segment.items) l.segments) → l.points ≡ l.fn.points ++ filter_map (point_at l.floor l.series l.from l.to) (flat_map (λ (segment : Segment Stepped). segment.items) (take l.segment-index l.segments))
