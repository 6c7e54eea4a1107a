-- What the crates above may cite of the proofs of this one, each in the words of specs/.
pub use Rattle.wasm_show.proofs.Listing.{Gives, after_import, fault_left, item_is, none_is_left, none_owned, owned_fault, owned_is}
pub use Rattle.wasm_show.proofs.Listing.{readings_agree}
pub use Rattle.wasm_show.proofs.Noting.{noted_nothing, noted_same}
pub use Rattle.wasm_show.proofs.Seeing.{numbers_append, seen_shown}
pub use Rattle.wasm_show.proofs.Walking.{SoFar, all_seen, all_stopped, fault_or_stop, none_so_far, one_so_far}
pub use Rattle.wasm_show.proofs.Walking.{sees_nothing, sees_same, sees_then, sees_told, sees_wider}
