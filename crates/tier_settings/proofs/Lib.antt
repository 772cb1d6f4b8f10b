pub mod TierLemmas
