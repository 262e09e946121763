pub mod Entries
pub mod Flowing
pub mod Kept
pub mod Crossing
pub mod Numbered
