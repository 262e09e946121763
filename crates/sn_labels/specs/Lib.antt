pub mod Labels
pub mod Flowing
