pub mod AnswerLaw
pub mod ApartLaw
pub mod FieldsLaw
pub mod FramesLaw
pub mod Lengths
pub mod PlacesLaw
pub mod StreamLaw
