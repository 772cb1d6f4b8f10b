use Rattle.std.proofs.Common.{ltb, leb, sym, subst, ◌∙◌, arith, rules}
use Rattle.std.specs.List.Sorted.{IsNonDecreasingBy}
use Rattle.std.proofs.lemmas.Bool.Decides.{nat_tests}
use Rattle.std.proofs.lemmas.List.Sorted.{IsPartitionedBy-ltb, IsPartitionPoint-from_clause}
use Rattle.beat_tiers.proofs.Searches.{drop-filter}
use Rattle.beat_tiers.proofs.SeriesLemmas.{rises_drop}
use Rattle.beat_tiers.proofs.sealed.from_series.Goals as goal

pub returns-clause-from : goal.returns-clause-from
returns-clause-from g c =
    let items = c.args.sorted.now in
    let point = IsPartitionPoint-from_clause (λ item. ltb item.series c.args.series) items c.partition_point-start.result c.partition_point-start.ensures.partitioned
    (IsPartitionedBy-ltb (λ item. item.series) items c.args.series c.requires) (λ a r f call. search rules) in
    c.split_at.ensures.back
    ∙ drop-filter (λ item. leb c.args.series item.series) c.partition_point-start.result items c.partition_point-start.ensures.bound
    (λ k d lo hi. let below = point.0 k d lo hi in grind (arith, nat_tests)) (λ k d lo hi. let past = point.1 k d lo hi in grind (arith, nat_tests))

pub returns-clause-rises : goal.returns-clause-rises
returns-clause-rises g c = subst (IsNonDecreasingBy (λ item. item.series)) (sym c.split_at.ensures.back) (rises_drop c.partition_point-start.result c.args.sorted.now c.requires)
