-- A walk over the payloads of a whole stream.
use Rattle.std.specs.Prelude.{◌≡◌, ◌↔◌, ℕ, ◌+◌, ◌-◌, ◌<◌, ◌^◌, Bool, true, false, List, [], ◌∷◌, length, drop, map}
use Rattle.std.specs.Prelude.{filter_map, All, Option, Some, None, Result, Ok, Err, if◌then◌else◌}
use Rattle.std.specs.declared.ops.Range.{Range}
use Rattle.std.specs.Iterator.{Drains}
use Rattle.wasm_base.specs.FaultAt.{fault_at}
use Rattle.wasm_base.specs.declared.error.Error.{Error}
use Rattle.wasm_grammar.specs.Accepted.{IsAccepted}
use Rattle.wasm_parser.specs.ParseAnswer.{report_of, ItemsBegin, ParseAnswer}
use Rattle.wasm_frames.specs.Answer.{is_end}
use Rattle.wasm_grammar.specs.Content.{ended, fault}
use Rattle.wasm_grammar.specs.Reading.{Report, stream_end, Event, Reading}
use Rattle.wasm_grammar.specs.Sections.{section_of, TiledBySections}
use Rattle.wasm_frames.specs.ParserState.{ParserState, initial_state}
use Rattle.wasm_parser.specs.declared.payload.Chunk.TheVariants.{Parsed}
use Rattle.wasm_parser.specs.declared.payload.Payload.{Payload}

-- where a walk is: its parser, the bytes that are left, and whether it is over
pub record Walk : Type 0 where
  pub state : ParserState
  pub bytes : List ℕ
  pub ended : Bool

-- a walk that has not begun
abbrev pub walk_over : ParserState → List ℕ → Walk
walk_over p bytes = record { state = p; bytes = bytes; ended = false }

-- how many payloads and faults may still come: each takes a byte, and then the end comes
abbrev pub most_payloads : Walk → ℕ
most_payloads s = if s.ended then 0 else length s.bytes + 1

-- how many bytes a step consumed
abbrev pub consumed_between : Walk → Walk → ℕ
consumed_between s t = length s.bytes - length t.bytes

-- The parser's result is yielded, and the walk is after it; after the end and after a fault it is finished.
abbrev pub YieldsAnswer : Walk → Option (Result Payload Error) → Walk → Type 0
YieldsAnswer s None t = ⊥
YieldsAnswer s (Some (Ok payload)) t =
    ParseAnswer s.state true s.bytes (Ok (Parsed (consumed_between s t) payload)) t.state
    × (t.bytes ≡ drop (consumed_between s t) s.bytes) × (t.ended ≡ is_end (report_of payload))
YieldsAnswer s (Some (Err e)) t =
    ParseAnswer s.state true s.bytes (Err e) t.state × (t.bytes ≡ s.bytes) × (t.ended ≡ true)

-- | one step of a walk over all payloads
-- one call of `next`
pub record NextPayload (s : Walk) (given : Option (Result Payload Error)) (t : Walk) : Type 0 where
  pub over : s.ended ≡ true → (given ≡ None) × (t ≡ s)
  pub going : s.ended ≡ false → YieldsAnswer s given t

-- what a payload reports, or a fault
abbrev pub given_report : Result Payload Error → Report
given_report (Ok payload) = report_of payload
given_report (Err e) = stream_end (fault (fault_at e))

abbrev pub event_report : Event → Report
event_report e = e.report

-- The last of these is the end at this offset.
abbrev pub EndsAt : (offset : ℕ) → List Report → Type 0
EndsAt offset [] = ⊥
EndsAt offset (x ∷ []) = x ≡ stream_end (ended offset)
EndsAt offset (x ∷ (y ∷ ys)) = EndsAt offset (y ∷ ys)

-- the sections that payloads are: of each its id, and the offsets of its content
abbrev pub sections_given : List (Result Payload Error) → List (ℕ × Range ℕ)
sections_given given = filter_map (λ x. section_of (given_report x)) given

-- The reader in a payload is where its items begin.
abbrev pub HoldsItems : Result Payload Error → Type 0
HoldsItems (Ok payload) = ItemsBegin payload
HoldsItems (Err e) = Unit {0}

-- | a walk yields the reading, each payload's reader at its first item, and its last is the end exactly if the stream
--   is accepted [`HoldsItems`]
-- What a walk yields up to its first `None` is the reading of this stream, which starts at this offset. Its last is the
-- end exactly if the stream is accepted, which then is a header and the sections that the payloads are.
pub record GivesReading (start features : ℕ) (bytes : List ℕ) (walk : Walk) : Type 0 where
  pub reading : (given : List (Result Payload Error)) → Drains NextPayload walk given → (events : List Event)
      → Reading bytes start features events → map given_report given ≡ map event_report events
  pub items : (given : List (Result Payload Error)) → Drains NextPayload walk given → All HoldsItems given
  pub accepted : (given : List (Result Payload Error)) → Drains NextPayload walk given → IsAccepted bytes
      ↔ EndsAt (start + length bytes) (map given_report given)
  pub sections : (given : List (Result Payload Error)) → Drains NextPayload walk given → (a : IsAccepted bytes)
      → TiledBySections bytes start (sections_given given) a.encoding a.frames

-- The same of the walk of a parser that has consumed nothing, wherever its stream starts and whatever its features are.
abbrev pub WalksWhole : ParserState → List ℕ → Walk → Type 0
WalksWhole p bytes walk = (start features : ℕ) → p ≡ initial_state start features → start + length bytes < 2 ^ 64
    → GivesReading start features bytes walk
