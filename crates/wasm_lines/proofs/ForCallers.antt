-- What the crates above may cite of the proofs of this one.
pub use Rattle.wasm_lines.proofs.Skipped.{skipped_text}
