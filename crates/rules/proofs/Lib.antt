pub mod Lowests
pub mod Faults
pub mod Deliveries
pub mod Judgements
