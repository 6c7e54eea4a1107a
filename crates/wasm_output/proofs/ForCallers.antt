-- What the crates above may cite of the proofs of this one, each in the words of specs/.
pub use Rattle.wasm_output.proofs.Saying.{says_named, more_fields, says_some, says_nothing, says_item_more, says_all}
pub use Rattle.wasm_output.proofs.Saying.{says_then, says_same, says_never}
pub use Rattle.wasm_output.proofs.Writing.{as_going, as_short, blank_before, first_in_objects}
pub use Rattle.wasm_output.proofs.Putting.{more_none, more_same, more_then, nothing_put, puts_more, without_memory}
