pub mod Layout
pub mod Nine
pub mod Laws
