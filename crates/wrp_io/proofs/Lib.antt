pub mod CarryLemmas
pub mod QueueLemmas
pub mod Reading
