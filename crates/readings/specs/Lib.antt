pub mod Limits
pub mod Delivery
pub mod Order
pub mod Numbers
