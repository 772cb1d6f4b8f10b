pub mod RoundingLemmas
pub mod UnitsLemmas
pub mod UnitsTextLemmas
pub mod ReadingLemmas
pub mod ReadsBack
