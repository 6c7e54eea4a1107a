-- The names of std, of the crates below and of the specs that several of these proofs use.
pub use Rattle.std.proofs.Common.{◌≡◌, ℕ, ◌+◌, ◌^◌, ◌<◌, Bool, true, false, List, [], ◌∷◌, ◌++◌, length, take, drop}
pub use Rattle.std.proofs.Common.{Some, None, Result, Ok, Err, refl, sym, ap, subst₂, ◌∙◌, arith, length-append, ◌-◌, ◌≤◌, append_assoc}
pub use Rattle.std.proofs.Common.{append-nil, Option, min, subst, inl, inr}
pub use Rattle.std.proofs.KnownBytes.{Consumes-kept, Consumes-nil, Consumes-trans}
pub use Rattle.std.proofs.lemmas.Bool.Decides.{nat_tests}
pub use Rattle.std.proofs.lemmas.List.{append_cancel_right, length-drop, drop-drop, take-append-drop, length-take}
pub use Rattle.std.proofs.lemmas.Result.{err_from_is_err_and}
pub use Rattle.std.specs.Io.KnownBytes.{Appends, Consumes}
pub use Rattle.wasm_base.specs.FaultAt.{fault_at, at_offset}
pub use Rattle.wasm_base.specs.Features.{all_features}
pub use Rattle.wasm_base.specs.declared.error.Error.{Error}
pub use Rattle.wasm_base.specs.declared.fault.Fault.TheVariants.{UnexpectedEof, OffsetRange}
pub use Rattle.wasm_grammar.specs.Content.{fault, Ending}
pub use Rattle.wasm_grammar.specs.Reading.{last_event, Event}
pub use Rattle.wasm_grammar.specs.Waiting.{enough}
unfoldable pub use Rattle.wasm_grammar.specs.Waiting.{waiting}
pub use Rattle.wasm_frames.proofs.ForCallers.{answers_go_along}
pub use Rattle.wasm_frames.specs.Along.{Came, is_last, ReadingBegins}
pub use Rattle.wasm_frames.specs.Answer.{GivesAnswer, IsRequest}
pub use Rattle.wasm_frames.specs.Answer.{is_end}
pub use Rattle.wasm_frames.specs.ParserState.{ParserState, grammar_of}
pub use Rattle.wasm_io.specs.Page.{IsCut, PutsBytes, WritesHead}
pub use Rattle.wasm_io.specs.declared.devices.ListError.{ListError}
pub use Rattle.wasm_io.specs.declared.devices.ListError.TheVariants.{Input}
pub use Rattle.wasm_streams.specs.Beside.{beside, seen, lending, MovesOver, FillsAlike}
pub use Rattle.wasm_streams.specs.Cursors.{feed_of}
pub use Rattle.wasm_streams.specs.Feed.{Feed, new_feed, pushed, finished, end_of}
pub use Rattle.wasm_streams.specs.Passing.{held_by}
pub use Rattle.wasm_streams.specs.Progress.{weight, Reached, Asks}
pub use Rattle.wasm_streams.specs.Step.{Told, Request, Part, Stop, answer_of, shown, is_request, Moves, Stepped, GivesTold}
pub use Rattle.wasm_streams.specs.Turns.{turn_after}
pub use Rattle.wasm_streams.specs.declared.cursor.Cursor.{Cursor}
pub use Rattle.wasm_streams.specs.declared.passing.Passing.{Passing}
pub use Rattle.wasm_streams.specs.declared.turns.Ended.{Ended}
pub use Rattle.wasm_streams.specs.declared.turns.Ended.TheVariants.{Fault}
