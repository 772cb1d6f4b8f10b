mod Rows
pub mod ConfigLemmas
pub mod DelayLemmas
pub mod DraftLemmas
pub mod KeyLemmas
pub mod LinesLemmas
pub mod SectionsLemmas
pub mod WordsLemmas
