pub mod FormLemmas
pub mod GrammarLemmas
pub mod HeaderLemmas
pub mod NextLemmas
pub mod PieceLemmas
pub mod ReadLemmas
pub mod StoreLemmas
mod Rows
