use Rattle.std.proofs.Common.{◌≡◌, ◌+◌, ◌≤◌, filter, flat_map, length, take}
use Rattle.beat_tiers.specs.declared.item.Stepped.{Stepped}
use Rattle.beat_tiers.specs.declared.parts.Segment.{Segment}
use Rattle.beat_tiers.specs.Above.{RiseAbove, RiseFrom, item_above, least_behind}
use Rattle.beat_tiers.specs.Kept.{behind_all}
use Rattle.beat_tiers.specs.Tiers.{AreOrdered}
use Rattle.beat_tiers.proofs.above.add_segments.Given as goal

abbrev pub invariant-loop-segment : goal.invariant-loop-segment
invariant-loop-segment l =
    RiseAbove l.from l.beats.items
    × (length l.beats.items ≤ l.most)
    × (AreOrdered (flat_map (λ (segment : Segment Stepped). segment.items) l.segments)
    → RiseFrom (least_behind (l.from + 1) l.fn.beats.items) (filter (item_above l.from) (flat_map (λ (segment : Segment Stepped). segment.items) l.segments))
    → l.beats.items ≡ behind_all l.fn.beats.items (filter (item_above l.from) (flat_map (λ (segment : Segment Stepped). segment.items) (take l.segment-index l.segments))))
