pub mod Awaited
pub mod BadNumbers
pub mod Deciding
pub mod MagicBegun
pub mod Sizes
pub mod Undecided
pub mod Waiting
