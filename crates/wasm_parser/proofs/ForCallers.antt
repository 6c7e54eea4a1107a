-- What the crates above may cite of the proofs below them: the statements of laws, each in the words of specs/, and of walks.
pub use Rattle.wasm_base.proofs.Walks.{gives, gives_owned, item_came, fault_came, after_item, at_a_fault}
pub use Rattle.wasm_frames.proofs.ForCallers.{accepted_reads, answers_go_along, answers_last, custom_has_its_id, end_consumes_all}
pub use Rattle.wasm_frames.proofs.ForCallers.{equal_errors, fault_ends, frames_give_events, frames_read_the_same, one_division}
pub use Rattle.wasm_frames.proofs.ForCallers.{rankless_may_go, reading_same, reads_accepted, skipping_goes_along}
pub use Rattle.wasm_parser.proofs.EachPayload.{PayloadCame, WalkedTo, payload_came, walk_begins, walk_begun, walk_ends, walk_faults}
