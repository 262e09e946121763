pub mod Known
pub mod Routed
pub mod Spots
pub mod Forms
pub mod Onward
pub mod Coming
