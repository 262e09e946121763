pub mod Equal
pub mod Sound
pub mod Sizes
pub mod Emitted
pub mod Operated
