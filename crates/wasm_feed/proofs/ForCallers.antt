-- What the crates above may cite of the proofs of this one: chunks that are joined.
pub use Rattle.wasm_feed.proofs.Joining.{joined_more, joined_parts}
