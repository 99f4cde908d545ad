pub mod Changes
pub mod Places
pub mod Runs
pub mod Turns
pub mod Laws
