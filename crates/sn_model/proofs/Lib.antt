pub mod Forms
pub mod Ordered
pub mod Lists
pub mod Neighbours
pub mod Crossing
