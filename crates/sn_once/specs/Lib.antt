pub mod Giving
pub mod Rest
