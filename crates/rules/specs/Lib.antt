pub mod Tables
pub mod Asked
pub mod States
pub mod Standing
pub mod Joined
pub mod Places
pub mod Reads
pub mod Rules
