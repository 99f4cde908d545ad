pub mod Place
pub mod Laws
