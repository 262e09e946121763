pub mod Walking
pub mod Around
