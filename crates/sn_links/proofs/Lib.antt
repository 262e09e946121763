pub mod Links
pub mod Crossing
