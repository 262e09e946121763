pub mod Routed
pub mod Spots
