pub mod Components
pub mod Meaning
pub mod Ranges
pub mod Run
pub mod Typed
pub mod Trail
