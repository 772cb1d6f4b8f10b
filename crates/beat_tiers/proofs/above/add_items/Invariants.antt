use Rattle.std.proofs.Common.{◌≡◌, ◌+◌, ◌≤◌, length, take}
use Rattle.beat_tiers.specs.Above.{RiseAbove, RiseFrom, least_behind}
use Rattle.beat_tiers.specs.Kept.{behind_all}
use Rattle.beat_tiers.proofs.above.add_items.Given as goal

abbrev pub invariant-loop-item : goal.invariant-loop-item
invariant-loop-item l =
    RiseAbove l.from l.beats.items
    × (length l.beats.items ≤ l.most)
    × (RiseFrom (least_behind (l.from + 1) l.fn.beats.items) l.items → l.beats.items ≡ behind_all l.fn.beats.items (take l.item-index l.items))
