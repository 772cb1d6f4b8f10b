use Rattle.std.proofs.Common.{◌≡◌, drop}
use Rattle.beat_tiers.specs.Parts.{with_records}
use Rattle.beat_tiers.specs.Room.{filled}
use Rattle.beat_tiers.proofs.record_tier.put_records.Given as goal

abbrev pub invariant-loop-record : goal.invariant-loop-record
invariant-loop-record l = with_records (filled l.slots.entries) (drop l.record-index l.records) ≡ with_records (filled l.fn.slots.entries) l.records
