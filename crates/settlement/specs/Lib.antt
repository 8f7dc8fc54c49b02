pub mod World
pub mod Steps
pub mod Book
pub mod Runs
