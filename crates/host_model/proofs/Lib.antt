pub mod CallLemmas
pub mod DiskLemmas
pub mod FileLemmas
mod HostLemmas
pub mod LeftLemmas
pub mod MomentLemmas
mod Rows
pub mod RunLemmas
pub mod SizeLemmas
mod StopLemmas
mod TakenLemmas
