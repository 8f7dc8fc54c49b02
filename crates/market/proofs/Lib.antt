pub mod Clocks
pub mod Counts
pub mod Dates
pub mod Tables
