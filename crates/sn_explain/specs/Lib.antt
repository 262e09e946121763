pub mod Kinds
pub mod Numbers
pub mod Excerpts
pub mod Rendered
pub mod Explanations
