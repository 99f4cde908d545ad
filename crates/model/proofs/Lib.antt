pub mod Laws
mod Puts
pub mod AllLaws
