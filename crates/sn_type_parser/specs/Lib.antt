pub mod LabelResidual
pub mod Reads
pub mod SigResidual
pub mod TypeResidual
