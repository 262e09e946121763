pub mod Machine
pub mod Call
pub mod Job
