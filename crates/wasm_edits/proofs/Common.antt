-- The names of std, of the crates below and of the specs that several of these proofs use.
pub use Rattle.std.proofs.Common.{◌≡◌, ℕ, ◌+◌, ◌⊎◌, inl, inr, Bool, true, false, List, [], ◌∷◌, ◌++◌, length, Some, refl, sym, subst, arith}
pub use Rattle.std.proofs.Common.{length-append, append-nil, append_assoc, eqb-true, ◌-◌, ◌≤◌, ◌<◌, take, drop, ap, ◌∙◌, ◌^◌, Ok, Err}
pub use Rattle.std.proofs.Common.{subst₂, Option, None, Result}
pub use Rattle.std.proofs.KnownBytes.{Consumes-trans, Consumes-nil}
pub use Rattle.std.proofs.lemmas.Grind.{common_steps}
pub use Rattle.std.proofs.lemmas.List.{take_at}
pub use Rattle.std.proofs.lemmas.List.Elements.{All-tail}
pub use Rattle.std.proofs.lemmas.Result.{err_from_is_err_and}
pub use Rattle.std.specs.Io.KnownBytes.{Appends}
pub use Rattle.std.specs.List.{All, filter, flat_map, copy_within}
pub use Rattle.wasm_base.specs.FaultAt.{fault_at}
pub use Rattle.wasm_base.specs.Features.{all_features}
pub use Rattle.wasm_base.specs.declared.error.Error.{Error}
pub use Rattle.wasm_grammar.specs.Accepted.{SectionFrame, frame_bytes, IsFrame}
pub use Rattle.wasm_grammar.specs.Content.{fault, Ending}
pub use Rattle.wasm_grammar.specs.EventRanges.{consumed_by}
pub use Rattle.wasm_grammar.specs.Reading.{Event, last_event, Reading}
pub use Rattle.wasm_grammar.specs.declared.encoding.Encoding.{Encoding}
pub use Rattle.wasm_frames.proofs.ForCallers.{answers_go_along}
pub use Rattle.wasm_frames.specs.SkipNext.{skip_is}
pub use Rattle.wasm_io.proofs.ForCallers.{cut_of}
pub use Rattle.wasm_io.specs.Calls.{from_to}
pub use Rattle.wasm_io.specs.Page.{IsCut, PutsBytes}
pub use Rattle.wasm_io.specs.declared.devices.ListError.{ListError}
pub use Rattle.wasm_edits.specs.EditStream.{StopsHere}
pub use Rattle.wasm_edits.specs.Stripped.{frame_stays, event_stays, EndsWithFault, IsStripped}
pub use Rattle.wasm_edits.specs.EditParts.{HasEdited, ReadsEdited}
pub use Rattle.wasm_streams.proofs.ForCallers.{AtEnd, arrived, cut_within, is_short, past, puts_more, begun}
pub use Rattle.wasm_streams.proofs.ForCallers.{nothing_read}
pub use Rattle.wasm_streams.specs.Beside.{seen, lending, beside}
pub use Rattle.wasm_streams.specs.Cursors.{feed_of}
pub use Rattle.wasm_edits.specs.Fates.{head_stays, stays_by}
pub use Rattle.wasm_streams.specs.Feed.{Feed, pushed}
pub use Rattle.wasm_streams.specs.Passing.{GivesUp, SkipsHere, held_by}
pub use Rattle.wasm_streams.specs.Progress.{Progress, Wants, weight}
pub use Rattle.wasm_streams.specs.Step.{Moves}
pub use Rattle.wasm_streams.specs.declared.cursor.Cursor.{Cursor}
pub use Rattle.wasm_streams.specs.declared.passing.Passing.{Passing}
pub use Rattle.wasm_streams.specs.declared.turns.Ended.TheVariants.{Fault}
