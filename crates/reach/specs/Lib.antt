pub mod Bus
pub mod Reach
pub mod Chip
pub mod Twins
pub mod Laws
