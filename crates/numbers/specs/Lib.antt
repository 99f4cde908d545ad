pub mod Numbers
pub mod Laws
