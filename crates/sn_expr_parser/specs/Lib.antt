pub mod BoxNodes
pub mod BoxResidual
pub mod Levels
pub mod TagResidual
