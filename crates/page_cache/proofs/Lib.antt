pub mod CachedLemmas
