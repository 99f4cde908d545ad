pub mod Transmit
pub mod Numbers
