pub mod Answer
pub mod Residual
pub mod Scopes
pub mod Whole
