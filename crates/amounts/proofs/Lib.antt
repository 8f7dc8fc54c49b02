pub mod Changes
pub mod Exactly
