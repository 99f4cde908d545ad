pub mod Runs
pub mod Words
pub mod Visits
mod Counts
pub mod Laws
