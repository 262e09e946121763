pub mod Seen
pub mod Facts
pub mod Coding
pub mod Table
pub mod Fork
pub mod Waits
pub mod Turns
pub mod Progress
