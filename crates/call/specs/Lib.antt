pub mod Outcome
pub mod Numbers
