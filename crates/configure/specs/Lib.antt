pub mod Whole
pub mod Numbers
pub mod Moves
pub mod Laws
