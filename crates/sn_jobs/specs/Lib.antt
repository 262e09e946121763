pub mod Queues
pub mod Ends
pub mod Coding
