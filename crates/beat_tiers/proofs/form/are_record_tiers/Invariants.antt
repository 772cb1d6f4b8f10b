use Rattle.std.proofs.Common.{◌≡◌, drop}
use Rattle.std.specs.List.{AllByRecursion}
use Rattle.beat_tiers.specs.Parts.{are_record_tiers}
use Rattle.beat_tiers.specs.Tiers.{IsTier}
use Rattle.beat_tiers.proofs.form.are_record_tiers.Given as goal

abbrev pub invariant-loop-kept : goal.invariant-loop-kept
invariant-loop-kept l =
    (are_record_tiers l.last l.ahead (drop l.kept-index l.records) ≡ are_record_tiers l.last l.tiers l.records)
    × AllByRecursion IsTier l.ahead
