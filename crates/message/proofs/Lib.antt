mod Objects
pub mod Checks
pub mod Round
pub mod Laws
