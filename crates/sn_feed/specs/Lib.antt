pub mod Going
pub mod Known
pub mod Still
pub mod Stops
pub mod Counted
