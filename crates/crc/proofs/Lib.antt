mod Xor
mod Table
mod Linear
pub mod Laws
