pub mod Characters
pub mod GlobLemmas
pub mod GlobOf
pub mod PieceLemmas
pub mod Runs
pub mod WordLemmas
