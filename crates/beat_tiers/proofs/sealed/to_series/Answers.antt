use Rattle.std.proofs.Common.{leb, ◌∙◌, rules}
use Rattle.std.proofs.lemmas.List.Sorted.{IsPartitionedBy-leb, IsPartitionPoint-from_clause}
use Rattle.beat_tiers.proofs.Searches.{take-filter}
use Rattle.beat_tiers.proofs.sealed.to_series.Goals as goal

pub returns : goal.returns
returns g c =
    let items = c.args.sorted.now in
    let point = IsPartitionPoint-from_clause (λ item. leb item.series c.args.series) items c.partition_point-end.result c.partition_point-end.ensures.partitioned
    (IsPartitionedBy-leb (λ item. item.series) items c.args.series c.requires) (λ a r f call. search rules) in
    c.split_at.ensures.front
    ∙ take-filter (λ item. leb item.series c.args.series) c.partition_point-end.result items c.partition_point-end.ensures.bound point.0 point.1
