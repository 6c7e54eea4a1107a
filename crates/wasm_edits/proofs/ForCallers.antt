-- What the crates above may cite of the proofs of this one.
pub use Rattle.wasm_edits.proofs.EditLaws.{edits_so}
pub use Rattle.wasm_edits.proofs.StripLaws.{stream_of}
