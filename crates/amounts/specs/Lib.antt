pub mod Laws
pub mod Sums
pub mod Words
pub mod BmUnit
pub mod Duos
