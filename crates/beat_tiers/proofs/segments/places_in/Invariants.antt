use Rattle.std.proofs.Common.{◌≡◌, ◌+◌, ◌≤◌, None, drop}
use Rattle.beat_tiers.specs.Segments.{places_behind}
use Rattle.beat_tiers.proofs.segments.places_in.Given as goal

abbrev pub invariant-loop-item : goal.invariant-loop-item
invariant-loop-item g l =
    (l.count + places_behind l.before (drop l.item-index l.items) ≡ places_behind None l.items)
    × (l.count ≤ l.item-index)
