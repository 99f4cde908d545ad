pub mod Enables
pub mod Tests
