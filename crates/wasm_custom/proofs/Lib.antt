pub mod AnnouncedHints
pub mod AnnouncedSymbols
pub mod Ascends
pub mod Numbered
pub mod PassedTexts
