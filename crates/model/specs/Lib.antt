pub mod Exchange
pub mod Laws
