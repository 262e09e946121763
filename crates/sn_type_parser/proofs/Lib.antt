pub mod LabelLaws
pub mod LabelSteps
pub mod SigLaws
pub mod SigSteps
pub mod TypeLaws
pub mod TypeSteps
pub mod Witnesses
