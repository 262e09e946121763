pub mod BoxDeclLaws
pub mod Embedded
pub mod Steps
