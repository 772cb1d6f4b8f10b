use Rattle.tier_rollup.proofs.BucketLemmas.{own_bucket, only_bucket}
use Rattle.tier_rollup.proofs.law.moments_have_one_bucket.Goals as goal

pub returns-clause-own : goal.returns-clause-own
returns-clause-own c = own_bucket

pub returns-clause-only : goal.returns-clause-only
returns-clause-only c = only_bucket
