use Rattle.std.proofs.Common.{◌≡◌, None, flat_map, take}
use Rattle.std.specs.List.{find}
use Rattle.fixed_num.specs.declared.units.Record.{Record}
use Rattle.beat_tiers.specs.declared.parts.Segment.{Segment}
use Rattle.beat_tiers.specs.Searching.{is_next}
use Rattle.beat_tiers.specs.Tiers.{AreOrdered}
use Rattle.beat_tiers.proofs.searching.next_in_segments.Given as goal

abbrev pub invariant-loop-segment : goal.invariant-loop-segment
invariant-loop-segment l =
    AreOrdered (flat_map (λ (segment : Segment Record). segment.items) l.segments)
    → find (is_next l.series l.from l.to) (flat_map (λ (segment : Segment Record). segment.items) (take l.segment-index l.segments)) ≡ None
