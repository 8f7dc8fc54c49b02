pub mod Cells
pub mod Shifts
pub mod Exchanges
pub mod Fills
pub mod Chains
pub mod Smallness
pub mod Accounts
