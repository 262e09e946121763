pub mod Bytes
pub mod Contents
pub mod Numbers
pub mod Saying
pub mod Tables
