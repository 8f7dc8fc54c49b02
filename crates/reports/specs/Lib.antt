pub mod Places
pub mod BmUnit
pub mod Duos
