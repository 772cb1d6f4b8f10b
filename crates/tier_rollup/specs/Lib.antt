pub mod Buckets
pub mod Growing
pub mod Rolling
