pub mod Subtypes
pub mod Witness
pub mod Fewest
pub mod Unbound
