pub mod Flow
pub mod Ends
pub mod Coding
pub mod Ended
