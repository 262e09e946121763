pub mod Adding
pub mod OnePart
pub mod Using
