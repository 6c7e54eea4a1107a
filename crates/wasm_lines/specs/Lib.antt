pub mod Dropping
pub mod ListStream
pub mod Listing
