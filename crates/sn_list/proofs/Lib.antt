pub mod Passed
pub mod Placed
