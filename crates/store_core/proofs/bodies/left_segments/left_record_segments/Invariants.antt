use Rattle.std.specs.List.{AllByRecursion}
use Rattle.beat_tiers.specs.Searching.{items_in}
use Rattle.beat_tiers.specs.Sound.{IsRecordOfSeries}
use Rattle.store_core.proofs.bodies.left_segments.left_record_segments.Given as goal

abbrev pub invariant-loop-extent : goal.invariant-loop-extent
invariant-loop-extent l = AllByRecursion IsRecordOfSeries (items_in l.segments)
