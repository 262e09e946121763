pub mod Words
pub mod Unplaced
pub mod ReadsBack
