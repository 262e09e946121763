pub mod Source
pub mod Numbers
pub mod Records
pub mod Tally
pub mod Counts
