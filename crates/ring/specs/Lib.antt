pub mod Ring
pub mod Queue
pub mod Registers
pub mod Layout
pub mod Slots
pub mod QueueOrder
pub mod QueueLaws
pub mod Laws
