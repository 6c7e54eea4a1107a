-- The names of std, of the crates below and of the specs that several of these proofs use.
pub use Rattle.std.proofs.Common.{◌≡◌, ℕ, Bool, true, false, List, [], ◌∷◌, ◌++◌, length, Some, refl, sym, arith}
pub use Rattle.std.proofs.Common.{append-nil, ◌<◌, drop, ap, ◌∙◌, Ok, Err}
pub use Rattle.std.proofs.Common.{Option, None, Result}
pub use Rattle.std.proofs.KnownBytes.{Consumes-trans, Consumes-nil}
pub use Rattle.std.proofs.lemmas.Result.{err_from_is_err_and}
pub use Rattle.std.specs.Io.KnownBytes.{Appends}
pub use Rattle.wasm_base.specs.FaultAt.{fault_at}
pub use Rattle.wasm_base.specs.declared.error.Error.{Error}
pub use Rattle.wasm_grammar.specs.Content.{fault}
pub use Rattle.wasm_grammar.specs.Reading.{last_event}
pub use Rattle.wasm_streams.specs.Lists.{listing_by}
pub use Rattle.wasm_lines.specs.Listing.{line_of}
pub use Rattle.wasm_frames.specs.SkipNext.{skip_is}
pub use Rattle.wasm_io.proofs.ForCallers.{cut_of}
pub use Rattle.wasm_io.specs.Calls.{from_to}
pub use Rattle.wasm_io.specs.Page.{IsCut, PutsBytes}
pub use Rattle.wasm_io.specs.declared.devices.ListError.{ListError}
pub use Rattle.wasm_streams.proofs.ForCallers.{AtEnd, arrived, cut, cut_within, is_short, past, puts_more, begun}
pub use Rattle.wasm_streams.proofs.ForCallers.{nothing_read}
pub use Rattle.wasm_streams.specs.Beside.{seen, lending, beside}
pub use Rattle.wasm_streams.specs.Cursors.{feed_of}
pub use Rattle.wasm_streams.specs.Feed.{Feed, pushed}
pub use Rattle.wasm_streams.specs.Passing.{GivesUp, SkipsHere, held_by}
pub use Rattle.wasm_streams.specs.Progress.{Progress, Wants, weight}
pub use Rattle.wasm_streams.specs.declared.cursor.Cursor.{Cursor}
pub use Rattle.wasm_streams.specs.declared.passing.Passing.{Passing}
pub use Rattle.wasm_streams.specs.declared.turns.Ended.TheVariants.{Fault}
