pub mod Transmits
mod Requests
