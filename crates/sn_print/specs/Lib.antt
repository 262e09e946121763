pub mod Declarations
pub mod Expressions
pub mod Labels
pub mod Networks
pub mod Words
