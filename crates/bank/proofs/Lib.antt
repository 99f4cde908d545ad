pub mod Laws
pub mod QueueLaws
pub mod AllLaws
