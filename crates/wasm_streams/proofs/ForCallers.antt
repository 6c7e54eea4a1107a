-- What the crates above may cite of the proofs of this one: the statements of laws, where a feeder is, and how a listing goes on, each in
-- the words of specs/.
pub use Rattle.wasm_streams.proofs.Beside.{over, steps_in}
pub use Rattle.wasm_streams.proofs.Parsers.{new_parser}
pub use Rattle.wasm_streams.proofs.PassedParts.{dropped_before, head_after, head_before, head_of_cut, head_of_puts, head_past, none_put}
pub use Rattle.wasm_streams.proofs.PassedParts.{puts_more, puts_out}
pub use Rattle.wasm_streams.proofs.Progress.{begun, progress_of, to_be_written, advanced, filled, wanted}
pub use Rattle.wasm_streams.proofs.Progress.{one_more, text_of_event, cut, no_memory, listed_to_end, cut_at_end, line_advanced}
pub use Rattle.wasm_streams.proofs.Progress.{listed_all, end_cut, not_filled}
pub use Rattle.wasm_streams.proofs.Reached.{nothing_read, IsEvent, IsEnding, AtEnd, all_given, consumed, begins_with}
pub use Rattle.wasm_streams.proofs.Reached.{begins}
pub use Rattle.wasm_streams.proofs.Reached.{whole_input, next_event, next_asks, next_ends, arrived, reads_on}
pub use Rattle.wasm_streams.proofs.Skipping.{same_held, reads_short, is_short, cut_within, past}
pub use Rattle.wasm_streams.proofs.Stepping.{feeders_go_along, gives, stepped}
pub use Rattle.wasm_streams.proofs.Waits.{feeders_wait}
pub use Rattle.wasm_streams.proofs.Writers.{MeetsBy, MetBy, cut_short, input_kept, may_begin, meets, sink_then}
