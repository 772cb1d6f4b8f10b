use Rattle.std.proofs.Common.{◌≡◌, ◌++◌, true, map}
use Rattle.std.specs.List.{AllByRecursion}
use Rattle.std.specs.Vec.Iter.{into_iter_items}
use Rattle.beat_tiers.specs.Parts.{are_record_tiers, restored_tiers}
use Rattle.beat_tiers.specs.Room.{records_held}
use Rattle.beat_tiers.specs.Tiers.{IsTier}
use Rattle.beat_tiers.proofs.tiers.restored_tiers.Given as goal

abbrev pub invariant-loop-kept : goal.invariant-loop-kept
invariant-loop-kept l =
    (map records_held l.tiers.items ++ restored_tiers l.ahead (into_iter_items l.kept-iterator) ≡ restored_tiers l.fn.settings l.fn.records)
    × (are_record_tiers l.last l.ahead (into_iter_items l.kept-iterator) ≡ true)
    × AllByRecursion IsTier l.ahead
