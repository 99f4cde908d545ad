pub mod Interrupt
