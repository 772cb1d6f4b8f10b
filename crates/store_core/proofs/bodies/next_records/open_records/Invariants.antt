use Rattle.std.proofs.Common.{◌≡◌, map, take}
use Rattle.std.specs.List.{AllByRecursion}
use Rattle.checkpoint_body.specs.Fields.{FitsOpenRecord}
use Rattle.store_core.specs.bodies.Tiers.{open_record_of}
use Rattle.store_core.proofs.bodies.next_records.open_records.Given as goal

abbrev pub invariant-loop-one : goal.invariant-loop-one
invariant-loop-one l = record { records : l.records ≡ map (open_record_of l.last l.width) (take l.one-index l.current); fit : AllByRecursion FitsOpenRecord l.records }
