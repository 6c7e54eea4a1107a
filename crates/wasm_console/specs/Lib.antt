pub mod Arguments
pub mod Devices
pub mod Endings
pub mod Messages
pub mod Strips
