pub mod FilterLaws
pub mod FilterSteps
pub mod ItemLaws
pub mod ItemSteps
