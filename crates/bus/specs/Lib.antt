pub mod Held
pub mod Bus
pub mod Sort
pub mod Queue
pub mod Numbers
pub mod Laws
