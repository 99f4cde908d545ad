pub mod All
pub mod If
