-- Laws of the definitions of framing.
use Rattle.std.specs.Prelude.{◌≡◌, ℕ, ◌+◌, ◌^◌, ◌<◌, ◌≤◌, ◌↔◌, List, [], ◌∷◌, ◌++◌, length}
use Rattle.wasm_grammar.specs.Accepted.{IsAccepted}
use Rattle.wasm_base.specs.FaultAt.{FaultAt}
use Rattle.wasm_grammar.specs.Content.{Ending, fault, ended}
use Rattle.wasm_grammar.specs.Grammar.{Tile, tile, verdict}
use Rattle.wasm_grammar.specs.Shifted.{shifted_events, PassesTheTop}
use Rattle.wasm_grammar.specs.Reading.{Event, events_of, last_event, Reads, Reading, Stream}
use Rattle.wasm_grammar.specs.SectionEvents.{SaysItsBytes}
use Rattle.wasm_grammar.specs.EventRanges.{consumed_by, AtOffsets, EndToEnd}
use Rattle.wasm_grammar.specs.Tiling.{bytes_of, grammar, Faultless}

-- two readings of one stream are one
abbrev pub OneReading : Type 0
OneReading = (stream : List ℕ) (start features : ℕ) (xs ys : List Event) → Reading stream start features xs
    → Reading stream start features ys → xs ≡ ys

-- every stream has a reading
abbrev pub SomeReading : Type 0
SomeReading = (stream : List ℕ) (start features : ℕ) → (events : List Event) × Reading stream start features events

-- what a tile is depends on its own bytes alone, of which there is at least one
abbrev pub TilesStandAlone : Type 0
TilesStandAlone = (start : ℕ) (tiles : List Tile) (rest : List ℕ) (t : Tile) → Faultless start tiles
    → verdict (grammar start tiles) rest ≡ tile t
    → (0 < length t.bytes) × ((more : List ℕ) → verdict (grammar start tiles) (t.bytes ++ more) ≡ tile t)
    × ((others : List ℕ) × (rest ≡ t.bytes ++ others))

-- the reading of a stream ends at its end exactly if the stream is accepted
abbrev pub AcceptedEnds : Type 0
AcceptedEnds = (stream : List ℕ) (start : ℕ) → Stream stream start
    → IsAccepted stream ↔ ((tiles : List Tile) × Reads stream start tiles (ended (start + length stream)))

-- the reading of a stream ends with a fault exactly if the stream is not accepted
abbrev pub FaultEnds : Type 0
FaultEnds = (stream : List ℕ) (start : ℕ) → Stream stream start
    → (¬ IsAccepted stream) ↔ ((tiles : List Tile) × (f : FaultAt) × Reads stream start tiles (fault f))

-- a fault lies in the stream, or at its end
abbrev pub FaultLiesWithin : Type 0
FaultLiesWithin = (stream : List ℕ) (start : ℕ) (tiles : List Tile) (f : FaultAt) → Reads stream start tiles (fault f)
    → (start + length (bytes_of tiles) ≤ f.offset) × (f.offset ≤ start + length stream)

-- the tiles of a reading are the longest faultless tiling of its stream: every other is a prefix of it
abbrev pub LongestTiling : Type 0
LongestTiling = (stream : List ℕ) (start : ℕ) (tiles others : List Tile) (end : Ending) (rest : List ℕ)
    → Reads stream start tiles end → Faultless start others → stream ≡ bytes_of others ++ rest
    → (later : List Tile) × (tiles ≡ later ++ others)

-- events are end to end in their stream, and their windows are its parts, with the features that are set; what they
-- consumed, joined, is the stream up to where the reading stops
abbrev pub EventsLieEndToEnd : Type 0
EventsLieEndToEnd = (stream : List ℕ) (start features : ℕ) (tiles : List Tile) (end : Ending)
    → Reads stream start tiles end
    → EndToEnd stream start features start (events_of start features tiles ++ last_event end ∷ [])
    × (consumed_by (events_of start features tiles ++ last_event end ∷ []) ≡ bytes_of tiles)

-- the start offset only moves offsets: the reading of a stream that starts later has the same events with every offset
-- moved, unless a section overruns the largest offset there
abbrev pub StartOnlyMoves : Type 0
StartOnlyMoves = (stream : List ℕ) (start by features : ℕ) (xs ys : List Event) (x : Reading stream start features xs)
    (y : Reading stream (start + by) features ys) → ¬ PassesTheTop y.end
    → ys ≡ shifted_events by xs

-- what the events of a reading say of sections and bodies is what the bytes that they consumed are
abbrev pub EventsSayTheirBytes : Type 0
EventsSayTheirBytes = (stream : List ℕ) (start features : ℕ) (events : List Event)
    → Reading stream start features events → AtOffsets (SaysItsBytes features) start events
