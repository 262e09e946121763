pub mod Knowing
pub mod Typing
pub mod Walk
pub mod Whole
pub mod Ended
