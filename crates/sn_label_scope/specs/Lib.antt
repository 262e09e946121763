pub mod Refusals
pub mod Labels
pub mod Operators
