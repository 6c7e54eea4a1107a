pub mod Endings
pub mod Fields
pub mod Streams
