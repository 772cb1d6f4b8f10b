use Rattle.std.proofs.Common.{◌≡◌, drop}
use Rattle.beat_tiers.specs.Parts.{are_open}
use Rattle.beat_tiers.proofs.form.are_open.Given as goal

abbrev pub invariant-loop-record : goal.invariant-loop-record
invariant-loop-record l = are_open l.least (drop l.record-index l.records) ≡ are_open 0 l.records
