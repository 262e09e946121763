pub mod Entries
pub mod Live
pub mod Parts
pub mod Runs
pub mod Known
pub mod Flat
