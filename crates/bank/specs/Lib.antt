pub mod Registers
pub mod Laws
