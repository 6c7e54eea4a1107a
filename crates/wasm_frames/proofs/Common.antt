-- The names of std, of the crates below and of the specs that several of these proofs use.
pub use Rattle.std.proofs.Common.{◌≡◌, ℕ, ◌+◌, ◌^◌, ◌<◌, ◌≤◌, Bool, true, false, List, [], ◌∷◌, ◌++◌, length, Result, Ok, Err, refl, sym}
pub use Rattle.std.proofs.Common.{ap, subst, subst₂, ◌∙◌, arith, length-append, append_assoc, append-nil, inl, inr, ltb-true, nat_eq, cond}
pub use Rattle.std.proofs.Common.{nat_lt, ltb-false, zero, suc, ◌-◌, not, ◌&&◌, take, drop, option_to_list, Some, None, le-ltb, lt-ltb}
pub use Rattle.std.proofs.Common.{nat_le, le-leb, Option, is_some, eqb-true}
pub use Rattle.std.proofs.lemmas.Bool.{and_parts}
pub use Rattle.std.proofs.lemmas.Grind.{flat_map-append}
pub use Rattle.std.proofs.lemmas.List.{take_at, drop_at, length-take-le}
pub use Rattle.std.proofs.lemmas.List.Elements.{All-nil, All-cons}
pub use Rattle.std.proofs.lemmas.Result.{err_from_is_err_and}
pub use Rattle.std.specs.List.{list_all}
pub use Rattle.std.specs.Prelude.{◌⊎◌, All}
pub use Rattle.wasm_base.proofs.NumberLaws.{number-used}
pub use Rattle.wasm_base.specs.FaultAt.{FaultAt, fault_at, at_offset, hint_of}
pub use Rattle.wasm_base.specs.Header.{magic, agree}
pub use Rattle.wasm_base.specs.Hints.{hint_at, missing_at}
pub use Rattle.wasm_base.specs.Name.{name_limit}
unfoldable pub use Rattle.wasm_base.specs.Name.{text_at}
pub use Rattle.wasm_base.specs.Number.{number, read}
unfoldable pub use Rattle.wasm_base.specs.Number.{unsigned_at}
pub use Rattle.wasm_base.specs.Outcome.{Outcome, ◌>>=◌}
pub use Rattle.wasm_base.specs.Window.{Window, Place, advanced, window_over, place}
pub use Rattle.wasm_base.specs.declared.error.Error.{Error}
pub use Rattle.wasm_base.specs.declared.fault.Fault.TheVariants.{OffsetRange, UnexpectedEof, FunctionCodeDiffer, CodeWithoutFunction}
pub use Rattle.wasm_base.specs.declared.fault.Fault.TheVariants.{TrailingCode, StartContent, DataCountContent, DataCountDiffer}
pub use Rattle.wasm_base.specs.declared.fault.Fault.TheVariants.{MagicAtSection, OutOfOrder, UnknownVersion}
pub use Rattle.wasm_base.specs.declared.fault.NumberKind.TheVariants.{VarU32}
pub use Rattle.wasm_grammar.proofs.endings.Undecided.{enough_is_decided}
pub use Rattle.wasm_grammar.proofs.endings.Waiting.{waiting-asks}
pub use Rattle.wasm_grammar.proofs.parts.Guarded.{Guarded-header, Guarded-inside_at}
pub use Rattle.wasm_grammar.proofs.parts.Placed.{headed, bodied}
pub use Rattle.wasm_grammar.proofs.parts.Verdicts.{verdict-more}
pub use Rattle.wasm_grammar.proofs.readings.EndToEnd.{tiles_consume}
pub use Rattle.wasm_grammar.proofs.readings.Endings.{header_end, inside_end}
pub use Rattle.wasm_grammar.proofs.readings.Readings.{Grown, grows}
pub use Rattle.wasm_grammar.specs.Content.{Ending, fault, ended, when, items, index, data_count, count_of, Form, Kind, custom, unknown}
pub use Rattle.wasm_grammar.specs.Content.{kind_of}
unfoldable pub use Rattle.wasm_grammar.specs.Content.{wrong_content}
pub use Rattle.wasm_grammar.specs.EventRanges.{consumed_by}
pub use Rattle.wasm_grammar.specs.Grammar.{Tile, Verdict, tile, final, Grammar, Shape, SectionContext, accept, check, u32_field, bytes}
pub use Rattle.wasm_grammar.specs.Grammar.{whole_grammar, wrong_data, content_grammar, after_length, section, code_entry}
unfoldable pub use Rattle.wasm_grammar.specs.Grammar.{verdict, header_grammar, body_grammar, section_grammar}
pub use Rattle.wasm_grammar.specs.Ids.{data_id, function_id}
pub use Rattle.wasm_grammar.specs.Reading.{stream_end, Event, tile_report, event_of, events_of, last_event, Reading, Stream, code_start}
pub use Rattle.wasm_grammar.specs.Reading.{Report, start_section, data_count_section, section_report}
pub use Rattle.wasm_grammar.specs.Tiling.{bytes_of, grammar, inside, context_of, bodies_left, bytes_left, counts}
pub use Rattle.wasm_grammar.specs.Waiting.{Waiting, enough, wants, asked_at_section}
unfoldable pub use Rattle.wasm_grammar.specs.Waiting.{waiting}
pub use Rattle.wasm_frames.specs.Answer.{GivesFrame, answer_by, answer_in_time, answer_to, answer_in, is_end, state_after_result}
pub use Rattle.wasm_frames.specs.Frame.{counted_frame, custom_frame, unknown_frame}
pub use Rattle.wasm_frames.specs.ParserState.{ParserState, initial_state, grammar_of, known_context, ended_state, IsStateAfter}
pub use Rattle.wasm_frames.specs.ParserState.{is_at_section, greatest, skipped_state}
pub use Rattle.wasm_frames.specs.ReadsPart.{MatchesGrammar, ReadsByGrammar, MatchesVerdict, is_lacking, is_miscounted}
unfoldable pub use Rattle.wasm_frames.specs.ReadsPart.{sized_window}
pub use Rattle.wasm_frames.specs.SkipNext.{Skip, SkipsPart, skip_in}
pub use Rattle.wasm_frames.specs.StateAfter.{state_after, state_after_tile}
pub use Rattle.wasm_frames.specs.Stored.{numbers_of}
pub use Rattle.wasm_frames.specs.declared.next.NextFrame.{NextFrame}
pub use Rattle.wasm_frames.specs.declared.next.NextFrame.TheVariants.{NeedMoreData, Parsed, Fault}
