pub mod Window
pub mod Joined
