pub mod Ask
pub mod Instruction
pub mod Ram
pub mod Refusals
pub mod Reply
pub mod Talk
