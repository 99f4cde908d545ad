pub mod Bits
pub mod Word
pub mod First
pub mod AllLaws
