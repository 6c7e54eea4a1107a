-- What the crates above may cite of the proofs of this one.
pub use Rattle.wasm_io.proofs.Cut.{cut_of}
pub use Rattle.wasm_io.proofs.Hexadecimal.{no_line_feed}
pub use Rattle.wasm_io.proofs.Saying.{says}
