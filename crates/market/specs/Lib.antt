pub mod Refusal
pub mod Lowest
pub mod Clock
pub mod ClockTime
pub mod Calendar
pub mod Dates
