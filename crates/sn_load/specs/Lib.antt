pub mod Load
pub mod Source
pub mod Scope
pub mod Flows
