use Rattle.std.proofs.Common.{◌≡◌, drop, take}
use Rattle.std.specs.List.{AllByRecursion}
use Rattle.field_codec.specs.Field.{IsBytes}
use Rattle.store_core.specs.beats.Records.{beats_from}
use Rattle.store_core.proofs.BeatProofs.Loops.{with_prefix}
use Rattle.store_core.proofs.beats.records.read_beats.Given as goal

abbrev pub invariant-loop-record : goal.invariant-loop-record
invariant-loop-record l =
    (with_prefix l.waiting (beats_from l.last (drop l.record-index l.records)) ≡ beats_from l.initial.last l.records) × AllByRecursion IsBytes (take l.record-index l.records)
