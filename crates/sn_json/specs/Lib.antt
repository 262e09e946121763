pub mod Keys
pub mod Reading
pub mod Writing
pub mod Lines
