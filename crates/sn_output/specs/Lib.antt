pub mod Line
pub mod Printed
pub mod Types
