use Rattle.std.proofs.Common.{◌≡◌, drop}
use Rattle.beat_tiers.specs.Kept.{behind_all}
use Rattle.beat_tiers.proofs.kept.add_items.Given as goal

abbrev pub invariant-loop-item : goal.invariant-loop-item
invariant-loop-item l = behind_all l.beats.items (drop l.item-index l.items) ≡ behind_all l.fn.beats.items l.items
