mod Search
pub mod Dlcs
pub mod Fields
