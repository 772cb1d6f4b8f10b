use Rattle.std.proofs.Common.{◌≡◌, drop}
use Rattle.beat_tiers.specs.Parts.{are_sealed}
use Rattle.beat_tiers.proofs.form.are_sealed.Given as goal

abbrev pub invariant-loop-segment : goal.invariant-loop-segment
invariant-loop-segment g l = are_sealed l.least l.last (drop l.segment-index l.segments) ≡ are_sealed 0 l.last l.segments
