pub mod Outcomes
pub mod Answers
pub mod Answering
pub mod Crossing
