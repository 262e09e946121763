pub mod Line
pub mod Numbered
pub mod OneLine
pub mod Reading
pub mod Seen
pub mod Steps
