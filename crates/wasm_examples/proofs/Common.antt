-- The names of std, of the crates below and of the specs that several of these proofs use.
pub use Rattle.std.proofs.Common.{◌≡◌, ℕ, List, [], ◌∷◌, ◌++◌, flat_map, Bor, Result, Ok, Err, sym, ap, subst, ◌∙◌, append-nil}
pub use Rattle.std.proofs.Common.{append_assoc, inl, inr, zero, suc, ◌<◌, ◌≤◌, false, length, Option, Some, None, nat_eq, refl, arith}
pub use Rattle.std.proofs.Common.{true, map, set, nat_lt, ◌^◌, take, drop, Bool, ◌+◌, max, ltb-true, ltb-false, length-append, ◌-◌, ◌*◌}
pub use Rattle.std.proofs.Common.{cond}
pub use Rattle.std.proofs.lemmas.Bool.{ne_eqb, lt-ltb}
pub use Rattle.std.proofs.lemmas.List.{length-drop, length-map, map-set, take-append-drop, length-take-le}
pub use Rattle.std.proofs.lemmas.Result.{err_from_is_err_and}
pub use Rattle.std.specs.Prelude.{◌⊎◌, if◌then◌else◌, string_bytes}
pub use Rattle.wasm_base.specs.Ascending.{Ascending, NextAscending, Refuses}
pub use Rattle.wasm_base.specs.FaultAt.{FaultAt, fault_at}
pub use Rattle.wasm_base.specs.Features.{all_features, feature_bits}
pub use Rattle.wasm_base.specs.Item.{ReadsAs}
pub use Rattle.wasm_base.specs.Outcome.{Outcome}
pub use Rattle.wasm_base.specs.Owned.{out_of_memory, UnlessMemory}
pub use Rattle.wasm_base.specs.Section.{item_or_fault, Items, NextItem}
pub use Rattle.wasm_base.specs.Walks.{Walked}
pub use Rattle.wasm_base.specs.Window.{Window, Place, place}
pub use Rattle.wasm_base.specs.declared.error.Error.{Error}
pub use Rattle.wasm_custom.specs.Linking.{symbol_at, LinkingParts, linking_subsection_in, linking_parts}
pub use Rattle.wasm_custom.specs.Names.{NamingParts, naming_parts, naming_at, index_of, offset_of_entry, NameParts, id_of_parts, name_in}
pub use Rattle.wasm_custom.specs.Names.{name_parts}
pub use Rattle.wasm_feed.specs.Pieces.{joined}
pub use Rattle.wasm_frames.specs.Along.{Along, Came}
pub use Rattle.wasm_frames.specs.Answer.{is_end, refuses, reports}
pub use Rattle.wasm_frames.specs.ParserState.{ParserState, initial_state}
pub use Rattle.wasm_grammar.specs.Content.{ended, fault}
pub use Rattle.wasm_grammar.specs.Reading.{Event, last_event, Reading, Report, stream_end}
pub use Rattle.wasm_parser.proofs.ForCallers.{answers_go_along, PayloadCame, WalkedTo, payload_came, reading_same, walk_begins}
pub use Rattle.wasm_parser.proofs.ForCallers.{walk_begun, walk_ends, walk_faults, gives_owned, after_item, at_a_fault, gives}
pub use Rattle.wasm_parser.specs.ParseAnswer.{report_of, ParseAnswer, ItemsBegin}
pub use Rattle.wasm_parser.specs.declared.payload.Payload.{Payload}
pub use Rattle.wasm_examples.specs.Folding.{subsections_from, subsections_at, items_at, unless_refused, after_all, ReadsTo, with_each}
pub use Rattle.wasm_examples.specs.Folding.{after_each}
pub use Rattle.wasm_examples.specs.Imported.{imports_of, memory_in}
pub use Rattle.wasm_examples.specs.ImportsText.{with_lines, with_part}
pub use Rattle.wasm_examples.specs.Linking.{linked_parts, with_symbol, with_symbols, with_linking, with_relocation, with_relocations}
pub use Rattle.wasm_examples.specs.Linking.{linked}
pub use Rattle.wasm_examples.specs.Outside.{outside_parts, at_fault, exported, with_export, imported, noted}
pub use Rattle.wasm_examples.specs.Printing.{ascending, text_of, with_name, texts_of, names_after, with_all, names_of_section}
pub use Rattle.wasm_examples.specs.Printing.{add_imported, names_of_map}
pub use Rattle.wasm_examples.specs.Streams.{IsEndOf, started}
pub use Rattle.wasm_examples.specs.Visits.{Visits, ReadsPieces, part, StoresLittle, VisitsNext, VisitsStream}
