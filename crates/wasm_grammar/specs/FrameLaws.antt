-- Laws of the sections that a stream is divided into.
use Rattle.std.specs.Prelude.{◌≡◌, ℕ, ◌+◌, ◌<◌, ◌↔◌, Bool, true, List, ◌++◌, All, filter, flat_map}
use Rattle.wasm_grammar.specs.Accepted.{header_bytes, SectionFrame, frame_bytes, frame_rank, FitsAfter, IsAccepted}
use Rattle.wasm_grammar.specs.FrameEvents.{FrameEvents, TellsFrames, SayTheSame}
use Rattle.wasm_grammar.specs.Reading.{Event, Reading, Stream}
use Rattle.wasm_grammar.specs.Shifted.{shifted_events}
use Rattle.wasm_grammar.specs.declared.encoding.Encoding.{Encoding}

-- an accepted stream is divided into sections in one way
abbrev pub OneDivision : Type 0
OneDivision = (stream : List ℕ) (a b : IsAccepted stream) → (a.encoding ≡ b.encoding) × (a.frames ≡ b.frames)

-- the reading of an accepted stream is the events of its header and of its sections, in their order, and its end
abbrev pub FramesGiveEvents : Type 0
FramesGiveEvents = (stream : List ℕ) (start features : ℕ) (events : List Event) → Stream stream start
    → (a : IsAccepted stream)
    → Reading stream start features events ↔ TellsFrames start features a.encoding a.frames events

-- A section that fits after some sections fits after others that say the same to it, and is read there as here: its
-- events at another offset are its events moved.
abbrev pub FramesReadTheSame : Type 0
FramesReadTheSame = (encoding : Encoding) (earlier others : List SectionFrame) (f : SectionFrame)
    → SayTheSame encoding earlier others
    → (FitsAfter encoding earlier f → FitsAfter encoding others f)
    × ((features at by : ℕ) (moved : List Event) → FrameEvents features encoding (at + by) f moved
    ↔ ((events : List Event) × FrameEvents features encoding at f events × (moved ≡ shifted_events by events)))

-- a stream without some of the sections that have no rank is accepted as the stream is
abbrev pub RanklessMayGo : Type 0
RanklessMayGo = (stream : List ℕ) (a : IsAccepted stream) (stays : SectionFrame → Bool)
    → All (λ f. 0 < frame_rank a.encoding f → stays f ≡ true) a.frames
    → (b : IsAccepted (header_bytes a.encoding ++ flat_map frame_bytes (filter stays a.frames)))
    × (b.encoding ≡ a.encoding) × (b.frames ≡ filter stays a.frames)
