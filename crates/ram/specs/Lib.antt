pub mod Echo
pub mod Numbers
pub mod RamCall
pub mod Step
pub mod Talk
