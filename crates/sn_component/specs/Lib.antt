pub mod Outbox
pub mod Component
pub mod Seen
pub mod Facts
pub mod Moved
pub mod Kept
pub mod Source
