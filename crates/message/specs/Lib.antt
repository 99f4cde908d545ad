pub mod Object
pub mod Message
pub mod Structs
pub mod Numbers
pub mod Laws
