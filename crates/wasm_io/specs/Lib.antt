pub mod Calls
pub mod Devices
pub mod Digits
pub mod Messages
pub mod Offsets
pub mod Page
