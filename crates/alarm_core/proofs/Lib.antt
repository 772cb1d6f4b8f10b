pub mod FindLemmas
pub mod ByChartLemmas
pub mod RestoreLemmas
pub mod NameLemmas
pub mod SeriesLemmas
pub mod LookupLemmas
pub mod ValueLemmas
pub mod PairLemmas
pub mod ExprLemmas
pub mod SameLemmas
pub mod LogLemmas
pub mod TableLemmas
mod WantedLemmas
mod ChartLemmas
mod RunLemmas
pub mod AgainLemmas
mod ShortLemmas
