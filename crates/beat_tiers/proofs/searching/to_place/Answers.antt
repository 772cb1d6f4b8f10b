use Rattle.std.proofs.Common.{leb, ◌∙◌, rules}
use Rattle.std.proofs.lemmas.List.Sorted.{IsPartitionedBy-leb, IsPartitionPoint-from_clause}
use Rattle.beat_tiers.proofs.Ordered.{places-non_decreasing}
use Rattle.beat_tiers.proofs.Searches.{take-filter}
use Rattle.beat_tiers.proofs.searching.to_place.Goals as goal

pub returns : goal.returns
returns g c = λ o.
    let items = c.args.items.now in
    let point = IsPartitionPoint-from_clause (λ item. leb item.place c.args.high) items c.partition_point-end.result c.partition_point-end.ensures.partitioned
    (IsPartitionedBy-leb (λ item. item.place) items c.args.high (places-non_decreasing items o)) (λ a r f call. search rules) in
    c.split_at.ensures.front
    ∙ take-filter (λ item. leb item.place c.args.high) c.partition_point-end.result items c.partition_point-end.ensures.bound point.0 point.1
