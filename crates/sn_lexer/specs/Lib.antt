pub mod Spelling
pub mod Gaps
pub mod Lexes
pub mod Fronts
pub mod Placed
pub mod Answer
