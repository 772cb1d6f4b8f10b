use Rattle.std.proofs.Common.{ltb, leb, sym, subst, ◌∙◌, arith, rules}
use Rattle.std.proofs.lemmas.Bool.Decides.{nat_tests}
use Rattle.std.proofs.lemmas.List.Sorted.{IsPartitionedBy-ltb, IsPartitionPoint-from_clause}
use Rattle.beat_tiers.specs.Tiers.{AreOrdered}
use Rattle.beat_tiers.proofs.Ordered.{ordered-drop, places-non_decreasing}
use Rattle.beat_tiers.proofs.Searches.{drop-filter}
use Rattle.beat_tiers.proofs.searching.from_place.Goals as goal

pub returns-clause-ordered : goal.returns-clause-ordered
returns-clause-ordered g c = λ o. subst AreOrdered (sym c.split_at.ensures.back) (ordered-drop c.partition_point-start.result c.args.items.now o)

pub returns-clause-from : goal.returns-clause-from
returns-clause-from g c = λ o.
    let items = c.args.items.now in
    let point = IsPartitionPoint-from_clause (λ item. ltb item.place c.args.low) items c.partition_point-start.result c.partition_point-start.ensures.partitioned
    (IsPartitionedBy-ltb (λ item. item.place) items c.args.low (places-non_decreasing items o)) (λ a r f call. search rules) in
    c.split_at.ensures.back
    ∙ drop-filter (λ item. leb c.args.low item.place) c.partition_point-start.result items c.partition_point-start.ensures.bound
    (λ k d lo hi. let below = point.0 k d lo hi in grind (arith, nat_tests)) (λ k d lo hi. let past = point.1 k d lo hi in grind (arith, nat_tests))
