pub mod GridLemmas
pub mod ItemLemmas
pub mod RecordLemmas
pub mod SlotLemmas
