pub mod Watch
pub mod Laws
