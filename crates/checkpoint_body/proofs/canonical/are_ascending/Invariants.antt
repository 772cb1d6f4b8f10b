use Rattle.std.proofs.Common.{◌≡◌, ◌++◌, drop, map}
use Rattle.std.specs.Option.{option_to_list}
use Rattle.checkpoint_body.specs.declared.body.OpenRecord.{OpenRecord}
use Rattle.checkpoint_body.specs.Canonical.{is_ascending}
use Rattle.checkpoint_body.proofs.canonical.are_ascending.Given as goal

abbrev pub invariant-loop-record : goal.invariant-loop-record
invariant-loop-record l =
    is_ascending (option_to_list l.last ++ map (λ (one : OpenRecord). one.series) (drop l.record-index l.records)) ≡ is_ascending (map (λ (one : OpenRecord). one.series) l.records)
