pub mod BoxLaws
pub mod BoxSteps
pub mod TagLaws
pub mod TagSteps
