pub mod Forks
mod Taking
mod Steps
mod Groups
mod OneChild
mod Items
mod Moves
mod Table
pub mod Growing
pub mod Routed
