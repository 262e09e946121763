pub mod Cutting
pub mod LineReads
pub mod Matching
pub mod Readers
pub mod Stays
pub mod Knowing
pub mod Parted
