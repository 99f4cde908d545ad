mod Begins
mod Stages
mod Places
mod Turning
mod Stored
pub mod Writes
pub mod Bounds
pub mod Laws
