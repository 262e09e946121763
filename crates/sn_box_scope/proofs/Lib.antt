pub mod FirstPlaces
pub mod ClosedExpressions
pub mod ClosedBoxes
pub mod Programs
