pub mod Choice
pub mod Table
pub mod Unique
