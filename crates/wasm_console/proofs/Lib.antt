pub mod Reading
pub mod Telling
