pub mod Ending
mod Telling
