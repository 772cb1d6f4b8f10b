pub mod ColumnLemmas
pub mod NumberLemmas
pub mod ReplyLemmas
mod Rows
pub mod SpanLemmas
