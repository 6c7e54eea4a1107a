-- Laws of the sections that a reading reports.
use Rattle.std.specs.Prelude.{◌≡◌, ℕ, List, ◌∷◌, ◌++◌, AllPairs}
use Rattle.wasm_grammar.specs.declared.encoding.Encoding.{Encoding}
use Rattle.wasm_grammar.specs.Accepted.{IsAccepted}
use Rattle.wasm_grammar.specs.Reading.{code_start, Event, Reading, Stream}
use Rattle.wasm_grammar.specs.Sections.{sections_of, TiledBySections, BeginsAs, RanksBelow, BodiesFollow}

-- an accepted stream is its header and then the sections that its reading reports, in their order: of each its id, its
-- length, and the bytes of its range
abbrev pub SectionsTile : Type 0
SectionsTile = (stream : List ℕ) (start features : ℕ) (events : List Event) → Stream stream start
    → (a : IsAccepted stream) → Reading stream start features events
    → TiledBySections stream start (sections_of events) a.encoding a.frames

-- of two sections of a reading that have a rank in the encoding of its header, the later one has the higher rank
abbrev pub RanksAscend : Type 0
RanksAscend = (stream : List ℕ) (start features : ℕ) (events : List Event) (encoding : Encoding)
    → Reading stream start features events → BeginsAs encoding events
    → AllPairs (RanksBelow encoding) (sections_of events)

-- after the start of a code section a reading has as many bodies as it counts, or fewer and then a fault
abbrev pub BodiesFollowTheirCount : Type 0
BodiesFollowTheirCount = (stream : List ℕ) (start features : ℕ) (events before after : List Event) (e : Event)
    (count from to size : ℕ) → Reading stream start features events
    → events ≡ before ++ e ∷ after → e.report ≡ code_start count from to size → BodiesFollow count after
