pub mod FilterResidual
pub mod ItemResidual
