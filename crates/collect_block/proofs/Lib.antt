pub mod CountLemmas
pub mod FeedLemmas
pub mod GrownLemmas
pub mod MarksLemmas
pub mod OpenLemmas
