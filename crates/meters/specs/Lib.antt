pub mod Lawful
pub mod Making
pub mod Class
pub mod Used
