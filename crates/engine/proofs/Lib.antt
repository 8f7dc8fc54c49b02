pub mod Nobody
pub mod Moves
pub mod Amends
pub mod Tables
pub mod Revises
