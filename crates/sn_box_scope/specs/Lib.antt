pub mod Variables
pub mod Functions
pub mod Expressions
pub mod Boxes
