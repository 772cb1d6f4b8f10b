pub mod BodyLaw
pub mod FieldLaws
pub mod PageLaws
pub mod RecordLemmas
pub mod SizeLaws
pub mod SlotLemmas
