use Rattle.std.proofs.Common.{take}
use Rattle.std.specs.List.{All}
use Rattle.beat_tiers.specs.Sound.{IsRecordOfSeries}
use Rattle.store_core.proofs.bodies.sound.are_records.Given as goal

abbrev pub invariant-loop-item : goal.invariant-loop-item
invariant-loop-item l = All IsRecordOfSeries (take l.item-index l.items)
