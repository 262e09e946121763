pub mod NamesLaws
pub mod Places
pub mod Labels
