pub mod InOrder
pub mod Label
pub mod LabelSet
pub mod Fits
pub mod Value
pub mod Record
