pub mod Lists
pub mod Agrees
