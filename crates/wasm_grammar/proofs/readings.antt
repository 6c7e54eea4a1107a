pub mod BodyCounts
pub mod EndToEnd
pub mod Endings
pub mod Longest
pub mod NextEvents
pub mod Readings
pub mod Shifting
