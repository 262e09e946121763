pub mod Names
pub mod Numbers
pub mod Once
pub mod Texts
pub mod Walks
