use Rattle.std.proofs.Common.{leb, sym, ap, subst, ◌∙◌, rules}
use Rattle.std.specs.List.{filter}
use Rattle.std.proofs.lemmas.List.Sorted.{IsPartitionedBy-leb, IsPartitionPoint-from_clause}
use Rattle.beat_tiers.specs.Searching.{first_place, items_in}
use Rattle.beat_tiers.specs.Tiers.{AreOrdered}
use Rattle.beat_tiers.proofs.Halves.{first_rises, take_ordered, take_same}
use Rattle.beat_tiers.proofs.searching.to_segment.Goals as goal

pub returns-clause-ordered : goal.returns-clause-ordered
returns-clause-ordered g c = λ o. subst (λ segments. AreOrdered (items_in segments)) (sym c.split_at.ensures.front) (take_ordered c.partition_point-end.result c.args.segments.now o)

pub returns-clause-to : goal.returns-clause-to
returns-clause-to g c = λ o.
    let segments = c.args.segments.now in
    let point = IsPartitionPoint-from_clause (λ segment. leb (first_place segment) c.args.high) segments c.partition_point-end.result c.partition_point-end.ensures.partitioned
    (IsPartitionedBy-leb first_place segments c.args.high (first_rises segments c.requires o)) (λ a r f call. search rules) in
    ap (λ segments. filter (λ item. leb item.place c.args.high) (items_in segments)) c.split_at.ensures.front
    ∙ take_same c.args.high c.partition_point-end.result segments o point.1
