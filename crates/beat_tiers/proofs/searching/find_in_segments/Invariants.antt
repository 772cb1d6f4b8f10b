use Rattle.std.proofs.Common.{◌≡◌, take, flat_map, find, None}
use Rattle.fixed_num.specs.declared.units.Record.{Record}
use Rattle.beat_tiers.specs.declared.parts.Segment.{Segment}
use Rattle.beat_tiers.specs.State.{is_item}
use Rattle.beat_tiers.specs.Tiers.{AreOrdered}
use Rattle.beat_tiers.proofs.searching.find_in_segments.Given as goal

abbrev pub invariant-loop-segment : goal.invariant-loop-segment
invariant-loop-segment l = AreOrdered (flat_map (λ (segment : Segment Record). segment.items) l.segments) → find (is_item l.bucket l.series) (flat_map (λ (segment : Segment Record). segment.items) (take l.segment-index l.segments)) ≡ None
