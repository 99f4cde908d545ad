pub mod Operation
pub mod Laws
