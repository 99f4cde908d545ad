pub mod BitTime
pub mod Nominal
pub mod Data
pub mod Delay
pub mod Signed
