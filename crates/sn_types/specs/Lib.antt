pub mod RecordType
pub mod Subsets
