pub mod Parts
pub mod Declared
pub mod Trees
pub mod Sources
