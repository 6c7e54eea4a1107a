-- The names of std, of the crates below and of the specs that several of these proofs use.
pub use Rattle.std.proofs.Common.{◌≡◌, ℕ, ◌+◌, ◌^◌, ◌<◌, Bool, true, false, List, [], ◌∷◌, ◌++◌, length, Result, Ok, Err, refl, sym}
pub use Rattle.std.proofs.Common.{ap, subst, ◌∙◌, arith, length-append, append_assoc}
pub use Rattle.std.proofs.Common.{drop, Some, None}
pub use Rattle.std.proofs.Common.{Option}
pub use Rattle.std.proofs.lemmas.List.{drop_at}
pub use Rattle.std.proofs.lemmas.List.Elements.{All-nil, All-cons}
pub use Rattle.std.specs.Prelude.{All}
pub use Rattle.wasm_base.specs.FaultAt.{fault_at}
pub use Rattle.wasm_base.specs.Item.{ReadsAs}
unfoldable pub use Rattle.wasm_base.specs.Number.{unsigned_at}
pub use Rattle.wasm_base.specs.Outcome.{Outcome}
pub use Rattle.wasm_base.specs.Section.{Section}
pub use Rattle.wasm_base.specs.Window.{Window, Place, place}
pub use Rattle.wasm_base.specs.declared.error.Error.{Error}
pub use Rattle.wasm_base.specs.declared.fault.NumberKind.TheVariants.{VarU32}
pub use Rattle.wasm_grammar.proofs.readings.Readings.{Grown, grows}
pub use Rattle.wasm_grammar.specs.Content.{Ending, fault, ended}
pub use Rattle.wasm_grammar.specs.Grammar.{Tile, Verdict, tile, final}
unfoldable pub use Rattle.wasm_grammar.specs.Grammar.{verdict}
pub use Rattle.wasm_grammar.specs.Ids.{data_id, function_id}
pub use Rattle.wasm_grammar.specs.Reading.{stream_end, Event, event_of, events_of, last_event, Reading, Stream}
pub use Rattle.wasm_grammar.specs.Reading.{Report, counted}
pub use Rattle.wasm_grammar.specs.Tiling.{bytes_of, grammar}
pub use Rattle.wasm_parser.specs.ParseAnswer.{IsPayload, report_of, ParseAnswer}
pub use Rattle.wasm_frames.specs.Answer.{is_end}
pub use Rattle.wasm_parser.specs.ParseAnswer.{counted_by, BeginsAfterCount}
pub use Rattle.wasm_frames.specs.ParserState.{ParserState, initial_state, grammar_of, IsStateAfter}
pub use Rattle.wasm_frames.specs.ParserState.{skipped_state}
pub use Rattle.wasm_frames.specs.StateAfter.{state_after_tile}
pub use Rattle.wasm_frames.specs.Stored.{numbers_of}
pub use Rattle.wasm_parser.specs.declared.payload.Chunk.TheVariants.{Parsed}
pub use Rattle.wasm_parser.specs.declared.payload.Payload.{Payload}
