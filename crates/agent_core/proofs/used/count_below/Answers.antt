use Rattle.std.proofs.Common.{ltb, rules}
use Rattle.std.proofs.lemmas.List.Sorted.{IsPartitionedBy-ltb, IsPartitionPoint-from_clause}
use Rattle.std.proofs.lemmas.Map.Keys.{non_decreasing_from_sorted}
use Rattle.agent_core.proofs.UsedNumbers.{place-bound, place-found}
use Rattle.agent_core.proofs.used.count_below.Goals as goal

pub returns-clause-value : goal.returns-clause-value
returns-clause-value c =
    let numbers = c.args.numbers.now in
    let point = IsPartitionPoint-from_clause (λ other. ltb other c.args.number) numbers c.partition_point.result c.partition_point.ensures.partitioned
    (IsPartitionedBy-ltb (λ other. other) numbers c.args.number (non_decreasing_from_sorted numbers c.requires)) (λ a r f call. search rules) in
    place-found numbers c.args.number c.partition_point.result c.requires c.partition_point.ensures.bound point.0 point.1

pub returns-clause-bound : goal.returns-clause-bound
returns-clause-bound c = place-bound c.args.numbers.now c.args.number c.partition_point.result (returns-clause-value c)
