pub mod Field
pub mod Register
pub mod Settings
