pub mod Records
pub mod Filters
pub mod Cells
pub mod Boxes
pub mod Parts
pub mod Events
pub mod Came
