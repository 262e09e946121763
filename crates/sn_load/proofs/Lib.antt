pub mod Loading
pub mod Texts
pub mod Flowing
pub mod Typing
