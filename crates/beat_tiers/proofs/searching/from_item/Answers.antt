use Rattle.std.proofs.Common.{take, ap, ◌∙◌, rules}
use Rattle.std.specs.List.{find}
use Rattle.std.proofs.lemmas.List.Sorted.{IsPartitionPoint-from_clause}
use Rattle.beat_tiers.specs.Searching.{is_before}
use Rattle.beat_tiers.specs.State.{is_item}
use Rattle.beat_tiers.proofs.Searches.{before-partitioned, find-from}
use Rattle.beat_tiers.proofs.searching.from_item.Goals as goal

pub returns : goal.returns
returns c = λ o.
    let a = c.args in
    let items = a.items.now in
    let place = c.partition_point-start.result in
    let point = IsPartitionPoint-from_clause (is_before a.bucket a.series) items place c.partition_point-start.ensures.partitioned
    (before-partitioned a.bucket a.series items o) (λ a r f call. search rules) in
    ap (λ zs. find (is_item a.bucket a.series) (take 1 zs)) c.split_at.ensures.back
    ∙ find-from a.bucket a.series place items o c.partition_point-start.ensures.bound point.0 point.1
