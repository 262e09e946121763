pub mod Adapters
pub mod Causes
pub mod FilesInMemory
pub mod Planned
pub mod SinkInMemory
pub mod Told
