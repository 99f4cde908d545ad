pub mod Ram
mod Answers
pub mod Winner
pub mod Laws
pub mod QueueLaws
pub mod Fitting
pub mod Arriving
pub mod Sorts
pub mod AllLaws
