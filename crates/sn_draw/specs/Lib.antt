pub mod Dot
pub mod Picture
