-- The names of std, of the crates below and of the specs that several of these proofs use.
pub use Rattle.std.proofs.Common.{◌≡◌, ℕ, zero, suc, ◌+◌, ◌^◌, ◌<◌, Bool, true, false, List, [], ◌∷◌, ◌++◌, Some, None, Result, Ok, Err}
pub use Rattle.std.proofs.Common.{refl, sym, ap, subst, subst₂, ◌∙◌, add-one, append-nil, arith, nat_eq, length, Option, append_assoc}
pub use Rattle.std.proofs.Common.{length-append, drop, option_map}
pub use Rattle.std.proofs.KnownBytes.{Consumes-trans}
pub use Rattle.std.proofs.lemmas.Result.{err_from_is_err_and}
pub use Rattle.std.specs.List.{list_any}
pub use Rattle.std.specs.Option.{is_some}
pub use Rattle.std.specs.Prelude.{if◌then◌else◌}
pub use Rattle.wasm_base.specs.FaultAt.{fault_at}
pub use Rattle.wasm_base.specs.Item.{ReadsAs}
pub use Rattle.wasm_base.specs.Number.{unsigned_at}
pub use Rattle.wasm_base.specs.Outcome.{Outcome}
pub use Rattle.wasm_base.specs.Section.{Section, all_items}
pub use Rattle.wasm_base.specs.Window.{Place, place}
pub use Rattle.wasm_base.specs.declared.error.Error.{Error}
pub use Rattle.wasm_base.specs.declared.fault.NumberKind.TheVariants.{VarU32}
pub use Rattle.wasm_streams.specs.Beside.{seen, lending, beside}
pub use Rattle.wasm_streams.specs.Cursors.{feed_of}
pub use Rattle.wasm_streams.specs.Feed.{Feed, pushed}
pub use Rattle.wasm_streams.specs.Progress.{weight}
pub use Rattle.wasm_streams.specs.Step.{Told, Part, Request, Stop, Moves}
pub use Rattle.wasm_streams.specs.Turns.{turn_after}
pub use Rattle.wasm_streams.specs.declared.cursor.Cursor.{Cursor}
pub use Rattle.wasm_streams.specs.declared.turns.Ended.TheVariants.{Fault, End}
pub use Rattle.wasm_grammar.specs.Content.{fault, Ending}
pub use Rattle.wasm_grammar.specs.Ids.{import_id}
pub use Rattle.wasm_grammar.specs.Reading.{Report, counted, Event, last_event, stream_end}
pub use Rattle.wasm_items.specs.Flattened.{flattened}
pub use Rattle.wasm_lines.specs.Listing.{line_in}
pub use Rattle.wasm_parser.specs.ParseAnswer.{report_of}
pub use Rattle.wasm_io.specs.Calls.{input_failed}
pub use Rattle.wasm_io.specs.declared.devices.ListError.{ListError}
pub use Rattle.wasm_io.specs.declared.devices.ListError.TheVariants.{Input}
pub use Rattle.wasm_io.specs.declared.digits.Base.{Base}
pub use Rattle.wasm_output.proofs.ForCallers.{first_in_objects}
pub use Rattle.wasm_output.specs.ItemNames.{KeepsNames}
pub use Rattle.wasm_output.specs.Numbers.{Number, more}
pub use Rattle.wasm_output.specs.Tree.{Writing, IsWritten, with_numbers, AddsThese, AddsNumbers, Adds, IsOut, base_of, Origin, AddsFirst}
pub use Rattle.wasm_output.specs.declared.numbers.Space.{Space}
pub use Rattle.wasm_output.specs.declared.numbers.Space.TheVariants.{Types, Functions, Tables, Memories, Tags, Globals, DataSegments}
pub use Rattle.wasm_dumper.specs.Chosen.{chosen_line, is_chosen, shown_line, numbered_line}
pub use Rattle.wasm_dumper.specs.Counting.{after, after_all, no_counts, numbers_in_line, Found, count_of}
pub use Rattle.wasm_dumper.specs.Dump.{AreOfItemsIf, ShowsItemsIf}
pub use Rattle.wasm_dumper.specs.Dump.{AreOfShown, DumpsInto, ShowsAnswer, bytes_of_events, origin, shown_bytes, AreOf, AreOfEvents}
pub use Rattle.wasm_dumper.specs.Hiding.{FailsWithin, Skips}
pub use Rattle.wasm_dumper.specs.declared.counts.Counts.{Counts}
pub use Rattle.wasm_dumper.specs.declared.events.Only.{Only}
pub use Rattle.wasm_dumper.specs.Chosen.{shows_items}
