pub mod Digits
pub mod Told
