mod Common
pub mod PlainLists
pub mod accepted
pub mod endings
pub mod frames
pub mod parts
pub mod readings
pub mod worked
