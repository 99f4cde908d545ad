pub mod Dlc
pub mod Header
