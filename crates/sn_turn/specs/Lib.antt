pub mod Kinds
pub mod Nodes
pub mod Places
pub mod Rounds
pub mod Turns
pub mod Unfolding
