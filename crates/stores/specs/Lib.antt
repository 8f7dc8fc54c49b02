pub mod Grid
pub mod Date
pub mod Layout
