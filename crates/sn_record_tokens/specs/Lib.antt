pub mod Tokens
pub mod Reading
