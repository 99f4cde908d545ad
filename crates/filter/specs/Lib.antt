pub mod Control
pub mod Object
pub mod Mask
