pub mod BucketLemmas
pub mod RecordLemmas
pub mod RollingLemmas
