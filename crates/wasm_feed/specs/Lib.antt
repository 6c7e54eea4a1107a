pub mod Events
pub mod Opened
pub mod Pieces
pub mod Rows
pub mod Steps
