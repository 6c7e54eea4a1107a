-- The names of std, of the crates below and of the specs that several of these proofs use.
pub use Rattle.std.proofs.Common.{◌≡◌, ℕ, ◌+◌, ◌^◌, ◌<◌, Bool, true, false, List, [], ◌∷◌, ◌++◌, length, take, drop, slice_index_or, Bor}
pub use Rattle.std.proofs.Common.{Some, None, Result, Ok, refl, sym, ap, subst₂, ◌∙◌, arith, length-append, ◌≤◌}
pub use Rattle.std.proofs.Common.{append-nil}
pub use Rattle.std.proofs.lemmas.Bool.Decides.{nat_tests}
pub use Rattle.std.proofs.lemmas.List.{take-append-drop, take_all}
pub use Rattle.std.specs.Io.BufRead.{Rests}
pub use Rattle.wasm_base.specs.FaultAt.{fault_at}
pub use Rattle.wasm_base.specs.Features.{all_features}
pub use Rattle.wasm_base.specs.declared.error.Error.{Error}
pub use Rattle.wasm_grammar.specs.Content.{fault}
pub use Rattle.wasm_grammar.specs.Reading.{last_event}
pub use Rattle.wasm_frames.proofs.ForCallers.{answers_go_along}
pub use Rattle.wasm_frames.specs.Along.{Came}
pub use Rattle.wasm_frames.specs.Answer.{GivesAnswer}
pub use Rattle.wasm_frames.specs.Answer.{is_end}
pub use Rattle.wasm_streams.specs.Cursors.{feed_of}
pub use Rattle.wasm_streams.specs.Feed.{Feed, new_feed, pushed, finished}
pub use Rattle.wasm_feed.specs.Pieces.{joined, HasCome, HasEnded}
pub use Rattle.wasm_streams.specs.Step.{Told, Request, Part, Stop, answer_of, shown, is_request, Moves}
pub use Rattle.wasm_streams.specs.declared.cursor.Cursor.{Cursor}
