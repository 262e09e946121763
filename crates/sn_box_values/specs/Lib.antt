pub mod Held
pub mod Datum
pub mod Shape
pub mod Size
pub mod Outcome
