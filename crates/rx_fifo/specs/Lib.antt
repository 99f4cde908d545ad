pub mod Fetch
pub mod Laws
pub mod Numbers
pub mod Outcome
pub mod Step
pub mod Talk
