use Rattle.std.proofs.Common.{leb, rules}
use Rattle.std.proofs.lemmas.List.Sorted.{IsPartitionedBy-leb, IsPartitionPoint-from_clause}
use Rattle.replication.specs.declared.beats.Beat.{Beat}
use Rattle.replication.specs.Names.{beat_moment}
use Rattle.replication.proofs.AboveLaws.{drop-above, rises-non_decreasing}
use Rattle.replication.proofs.above.first_above.Goals as goal

pub returns-clause-above : goal.returns-clause-above
returns-clause-above c =
    let beats = c.args.beats.now in
    let point = IsPartitionPoint-from_clause (λ (beat : Beat). leb beat.moment c.args.from) beats c.partition_point.result c.partition_point.ensures.partitioned
    (IsPartitionedBy-leb beat_moment beats c.args.from (rises-non_decreasing beat_moment 0 beats c.requires)) (λ a r f call. search rules) in
    drop-above beat_moment c.args.from c.partition_point.result beats c.partition_point.ensures.bound point.0 point.1
