pub mod Filters
pub mod Laws
