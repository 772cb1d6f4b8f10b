pub mod CountLemmas
pub mod FormLemmas
pub mod MomentLemmas
pub mod SlotLemmas
