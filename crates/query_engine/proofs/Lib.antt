pub mod MemberLemmas
pub mod JoinLemmas
pub mod FirstLemmas
pub mod WindowLemmas
pub mod PartLemmas
pub mod TierLemmas
pub mod LawLemmas
pub mod Keeping
pub mod TableLemmas
pub mod SeriesLemmas
mod Rows
