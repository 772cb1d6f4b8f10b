use Rattle.std.proofs.Common.{◌≡◌, map, take}
use Rattle.store_core.specs.bodies.Tiers.{open_record_of}
use Rattle.store_core.proofs.bodies.kept_tiers.open_records_of.Given as goal

abbrev pub invariant-loop-record : goal.invariant-loop-record
invariant-loop-record l = take l.record-index l.records ≡ map (open_record_of l.last l.width) l.current
