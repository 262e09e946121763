pub mod Writable
pub mod ReadsBack
pub mod PrintedFile
