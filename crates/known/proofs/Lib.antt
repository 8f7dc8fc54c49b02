pub mod Defaults
pub mod Values
