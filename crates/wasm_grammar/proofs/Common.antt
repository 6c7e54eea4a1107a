-- The names of std and of the specs that several of these proofs use.
pub use Rattle.std.proofs.Common.{arith, ◌≡◌, ◌⊎◌, inl, inr, Bool, true, false, cond, List, [], ◌∷◌, ◌++◌, refl, ap, ℕ, ◌+◌, length, ◌≤◌}
pub use Rattle.std.proofs.Common.{None, ◌<◌, not, ◌&&◌, sym, ◌∙◌, nat_lt, nat_eq, eqb-true, eq-eqb, append-nil, append_assoc, ltb-true}
pub use Rattle.std.proofs.Common.{lt-ltb, Option, subst, zero, suc, ◌-◌, take, drop, nat_le, length-append, lit<, ◌^◌, Some, le-leb, ◌≢◌}
pub use Rattle.std.proofs.Common.{replicate, leb-true, option_to_list, map, le_refl}
pub use Rattle.std.proofs.Math.Bool.{and_comm}
pub use Rattle.std.proofs.lemmas.Bool.{and_parts, and_from}
pub use Rattle.std.proofs.lemmas.Grind.{common_steps, flat_map-append}
pub use Rattle.std.proofs.lemmas.List.{length-take-le, flat_map_more, take_at, drop_at, append_cancel_left, take-append-le, drop-append-le}
pub use Rattle.std.proofs.lemmas.List.{length-replicate, length-drop}
pub use Rattle.std.proofs.lemmas.List.Elements.{All-nil, All-cons, All-head, All-tail, All-push}
pub use Rattle.std.proofs.lemmas.List.Folds.{list_all-append}
pub use Rattle.std.proofs.lemmas.Str.{is_utf8-from_IsUtf8}
pub use Rattle.std.specs.List.{All, Any, filter, list_all, list_any, flat_map}
pub use Rattle.std.specs.Str.{is_utf8}
pub use Rattle.std.specs.declared.ops.Range.{Range}
pub use Rattle.wasm_base.proofs.NumberLaws.{number-used, number-more, last_place-lt}
pub use Rattle.wasm_base.specs.FaultAt.{FaultAt, at_offset}
pub use Rattle.wasm_base.specs.Header.{magic, agree}
pub use Rattle.wasm_base.specs.Name.{of_four, named}
unfoldable pub use Rattle.wasm_base.specs.Name.{name}
pub use Rattle.wasm_base.specs.Number.{Number, read, bad}
unfoldable pub use Rattle.wasm_base.specs.Number.{number}
pub use Rattle.wasm_base.specs.declared.fault.Fault.{Fault}
pub use Rattle.wasm_base.specs.declared.fault.Fault.TheVariants.{FunctionWithoutCode, DataCountWithoutData, BadMagic, MagicAtSection}
pub use Rattle.wasm_base.specs.declared.fault.Fault.TheVariants.{UnexpectedEof, MalformedSectionId}
pub use Rattle.wasm_base.specs.declared.fault.NumberKind.TheVariants.{VarU32}
pub use Rattle.wasm_grammar.specs.Accepted.{IsNumber, IsFormed, SectionFrame, frame_count, frame_rank, IsSection, IsMatched, IsAccepted}
pub use Rattle.wasm_grammar.specs.Accepted.{header_bytes, Sized, sized_bytes, IsSized, frame_bytes, IsFrame, FitsAfter, CodeDivision}
pub use Rattle.wasm_grammar.specs.Content.{Ending, fault, ended, Form, items, kind_of, whole, when, Kind, custom, index, data_count, code}
pub use Rattle.wasm_grammar.specs.Content.{rank_of, unknown}
unfoldable pub use Rattle.wasm_grammar.specs.Content.{wrong_content}
pub use Rattle.wasm_grammar.specs.EventRanges.{AtOffsets, consumed_by}
pub use Rattle.wasm_grammar.specs.FrameEvents.{body_events, header_event, section_event, code_events, FrameEvents, FramesEvents}
pub use Rattle.wasm_grammar.specs.Grammar.{Tile, SectionContext, end_at_section, wrong_count, wrong_data, version, tile, check, bytes}
pub use Rattle.wasm_grammar.specs.Grammar.{version_of, section, code_start, code_entry, Shape, final, after, Grammar, accept, u32_field}
pub use Rattle.wasm_grammar.specs.Grammar.{content_grammar, whole_grammar, code_grammar, after_length, after_id, section_start, Verdict}
pub use Rattle.wasm_grammar.specs.Grammar.{after_number, reject, body_of}
unfoldable pub use Rattle.wasm_grammar.specs.Grammar.{verdict, header_grammar, section_grammar, body_grammar}
pub use Rattle.wasm_grammar.specs.Ids.{code_id, data_count_id, data_id, function_id, custom_id}
pub use Rattle.wasm_grammar.specs.NextEvent.{NextEvent}
pub use Rattle.wasm_grammar.specs.Reading.{Reads, events_of, Event, last_event, Reading, tile_report, event_of, section_report}
pub use Rattle.wasm_grammar.specs.Sections.{section_of, sections_of}
pub use Rattle.wasm_grammar.specs.Shifted.{shifted_events}
pub use Rattle.wasm_grammar.specs.Tiling.{bytes_of, context_of, bodies_left, bytes_left, encoding_of, grammar, is_start, Faultless}
pub use Rattle.wasm_grammar.specs.Tiling.{tile_rank}
pub use Rattle.wasm_grammar.specs.Undecided.{ending_of_number}
unfoldable pub use Rattle.wasm_grammar.specs.Undecided.{deciding_ending}
pub use Rattle.wasm_grammar.specs.Waiting.{enough, wants, later, later_number}
unfoldable pub use Rattle.wasm_grammar.specs.Waiting.{waiting}
pub use Rattle.wasm_grammar.specs.declared.encoding.Encoding.{Encoding}
pub use Rattle.wasm_grammar.specs.declared.encoding.Encoding.TheVariants.{Module, Component}
