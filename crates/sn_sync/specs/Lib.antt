pub mod Synchrocell
pub mod Coding
pub mod Slotted
pub mod Outcome
