pub mod Over
pub mod OwnerEnds
