pub mod formers
pub mod Sorted
