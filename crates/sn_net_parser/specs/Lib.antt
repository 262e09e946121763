pub mod Levels
pub mod Residual
