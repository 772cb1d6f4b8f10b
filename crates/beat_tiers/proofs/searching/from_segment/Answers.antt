use Rattle.std.proofs.Common.{ltb, leb, sym, ap, subst, ◌∙◌, rules}
use Rattle.std.specs.List.{AllByRecursion, filter}
use Rattle.std.proofs.lemmas.List.Sorted.{IsPartitionedBy-ltb, IsPartitionPoint-from_clause}
use Rattle.list_lemmas.proofs.Every.{all-drop as all_drop}
use Rattle.beat_tiers.specs.Searching.{HasItems, items_in, last_place}
use Rattle.beat_tiers.specs.Tiers.{AreOrdered}
use Rattle.beat_tiers.proofs.Halves.{drop_ordered, drop_same, last_rises}
use Rattle.beat_tiers.proofs.searching.from_segment.Goals as goal

pub returns-clause-ordered : goal.returns-clause-ordered
returns-clause-ordered g c = λ o. subst (λ segments. AreOrdered (items_in segments)) (sym c.split_at.ensures.back) (drop_ordered c.partition_point-start.result c.args.segments.now o)

pub returns-clause-full : goal.returns-clause-full
returns-clause-full g c = subst (AllByRecursion HasItems) (sym c.split_at.ensures.back) (all_drop HasItems c.partition_point-start.result c.args.segments.now c.requires)

pub returns-clause-from : goal.returns-clause-from
returns-clause-from g c = λ o.
    let segments = c.args.segments.now in
    let point = IsPartitionPoint-from_clause (λ segment. ltb (last_place segment) c.args.low) segments c.partition_point-start.result c.partition_point-start.ensures.partitioned
    (IsPartitionedBy-ltb last_place segments c.args.low (last_rises segments c.requires o)) (λ a r f call. search rules) in
    ap (λ segments. filter (λ item. leb c.args.low item.place) (items_in segments)) c.split_at.ensures.back
    ∙ drop_same c.args.low c.partition_point-start.result segments o point.0
