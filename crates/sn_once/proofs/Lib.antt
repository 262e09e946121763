pub mod Feeding
pub mod Stuck
