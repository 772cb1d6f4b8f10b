use Rattle.std.proofs.Common.{◌≡◌, drop, flat_map}
use Rattle.beat_tiers.specs.declared.item.Stepped.{Stepped}
use Rattle.beat_tiers.specs.declared.parts.Segment.{Segment}
use Rattle.beat_tiers.specs.Kept.{behind_all}
use Rattle.beat_tiers.proofs.kept.add_segments.Given as goal

abbrev pub invariant-loop-segment : goal.invariant-loop-segment
invariant-loop-segment l = behind_all l.beats.items (flat_map (λ (segment : Segment Stepped). segment.items) (drop l.segment-index l.segments)) ≡ behind_all l.fn.beats.items (flat_map (λ (segment : Segment Stepped). segment.items) l.segments)
