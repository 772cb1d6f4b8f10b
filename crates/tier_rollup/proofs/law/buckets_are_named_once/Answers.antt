use Rattle.tier_rollup.proofs.BucketLemmas.{falling_buckets, first_bucket}
use Rattle.tier_rollup.proofs.law.buckets_are_named_once.Goals as goal

pub returns-clause-once : goal.returns-clause-once
returns-clause-once c = falling_buckets

pub returns-clause-last : goal.returns-clause-last
returns-clause-last c = λ width bucket kept last points handed h. first_bucket width bucket handed last points h.each_once
