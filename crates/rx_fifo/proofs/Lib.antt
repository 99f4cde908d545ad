mod Bytes
pub mod Runs
pub mod Bounds
pub mod Objects
mod Slot
pub mod Laws
