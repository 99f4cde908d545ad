pub mod Scrub
pub mod Step
pub mod Numbers
pub mod Talk
pub mod Laws
