pub mod CanControl
pub mod TimeStampControl
