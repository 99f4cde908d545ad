pub mod Classes
pub mod Seen
