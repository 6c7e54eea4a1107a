-- What the crates above may cite of the proofs below them: the statements of laws, each in the words of specs/.
pub use Rattle.wasm_base.proofs.SameFaults.{error as equal_errors}
pub use Rattle.wasm_grammar.proofs.accepted.Frames.{reads_accepted}
pub use Rattle.wasm_grammar.proofs.accepted.Accepting.{fault_ends}
pub use Rattle.wasm_grammar.proofs.accepted.Walks.{accepted_reads}
pub use Rattle.wasm_grammar.proofs.readings.Readings.{reading_same}
pub use Rattle.wasm_frames.proofs.Along.{answers_go_along}
pub use Rattle.wasm_frames.proofs.AnswerBounds.{answers_last, asks_for_some, consumes, faults_within}
pub use Rattle.wasm_frames.proofs.AsksWhereOpen.{asks_where_open}
pub use Rattle.wasm_frames.proofs.Awaited.{awaits}
pub use Rattle.wasm_frames.proofs.Consumed.{end_consumes_all}
pub use Rattle.wasm_frames.proofs.Following.{gives_next}
pub use Rattle.wasm_grammar.proofs.frames.Kept.{frames_read_the_same, rankless_may_go}
pub use Rattle.wasm_grammar.proofs.accepted.KindIds.{custom_has_its_id}
pub use Rattle.wasm_grammar.proofs.frames.ReportedAs.{frames_give_events, one_division}
pub use Rattle.wasm_frames.proofs.SkipAlong.{skipping_goes_along}
