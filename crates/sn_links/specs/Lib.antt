pub mod Nodes
pub mod Queues
pub mod Reading
pub mod Ends
pub mod Coding
