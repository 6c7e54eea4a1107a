-- What passing the rest of a code section says.
use Rattle.std.specs.Prelude.{◌≡◌, ℕ, List, [], ◌++◌, length, IsSome, All}
use Rattle.wasm_frames.specs.Along.{Along}
use Rattle.wasm_grammar.specs.EventRanges.{consumed_by}
use Rattle.wasm_grammar.specs.Grammar.{Tile}
use Rattle.wasm_frames.specs.ParserState.{ParserState, IsStateAfter, skippable_of, skipped_state}
use Rattle.wasm_grammar.specs.Reading.{Event}
use Rattle.wasm_grammar.specs.Sections.{ReportsBody}
use Rattle.wasm_grammar.specs.Tiling.{bytes_of, bodies_left, Faultless}

-- These bytes are the rest of a code section that is then at its end, with all its bodies.
pub record CompletesCode (start : ℕ) (prefix bodies : List ℕ) : Type 0 where
  pub tiles : List Tile
  pub faultless : Faultless start tiles
  pub whole : bytes_of tiles ≡ prefix ++ bodies
  pub no_body_left : bodies_left tiles ≡ 0

-- | skipping the rest of a code section [`SkipsSection`; `ParserState.skippable_of`, `skipped_state`]
-- Wherever the parser is in a code section, it is then after as many bytes as the section has left, whatever they are,
-- as long as some such bytes complete it.
abbrev pub SkipsSection : ParserState → ParserState → Type 0
SkipsSection old new = (start : ℕ) (prefix bodies : List ℕ) → IsStateAfter old start prefix
    → length bodies ≡ old.code_bytes
    → CompletesCode start prefix bodies
    → IsStateAfter new start (prefix ++ bodies)

-- | a caller that skips the rest of a code section continues with the reading without its bodies <Code Section; this
--   project>
-- The events of these bodies are those that come after the ones that a caller had, and the caller is after them without
-- having read them.
pub record LeavesOut (start features : ℕ) (prefix bodies : List ℕ) (events : List Event) (p : ParserState) : Type
    0 where
  pub passed : List Event
  pub each : All ReportsBody passed
  pub consumed : consumed_by passed ≡ bodies
  pub is_along : Along start features (prefix ++ bodies) p [] (events ++ passed)

-- A caller that passes the rest of a code section, whatever its bytes are, goes on with the reading without its bodies.
abbrev pub SkippingLeavesOutBodies : Type 0
SkippingLeavesOutBodies = (start features : ℕ) (prefix bodies : List ℕ) (p : ParserState) (events : List Event)
    → Along start features prefix p [] events → IsSome (skippable_of p) → length bodies ≡ p.code_bytes
    → CompletesCode start prefix bodies
    → LeavesOut start features prefix bodies events (skipped_state p)
