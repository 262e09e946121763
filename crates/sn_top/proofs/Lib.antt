pub mod Working
mod Traced
pub mod Counting
mod Printing
