pub mod Sending
pub mod Passing
pub mod Working
pub mod Sources
