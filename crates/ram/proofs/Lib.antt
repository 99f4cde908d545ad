mod Tests
mod Pattern
pub mod Laws
pub mod Runs
