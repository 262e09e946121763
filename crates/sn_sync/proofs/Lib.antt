pub mod Filling
pub mod Unions
pub mod Receptions
