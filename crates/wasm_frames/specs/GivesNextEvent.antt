-- The result of a call is the next event of the stream's reading.
use Rattle.std.specs.Prelude.{◌≡◌, ℕ, ◌+◌, ◌<◌, ◌^◌, Bool, true, false, List, [], ◌++◌, length, take}
use Rattle.wasm_grammar.specs.Content.{fault}
use Rattle.wasm_grammar.specs.Reading.{Event, stream_end, Reading}
use Rattle.wasm_frames.specs.Answer.{Answer, asks, reports, refuses}
use Rattle.wasm_frames.specs.ParserState.{ParserState, IsStateAfter, grammar_of}
use Rattle.wasm_grammar.specs.Waiting.{wants, waiting}
use Rattle.wasm_grammar.specs.NextEvent.{NextEvent}

-- These bytes may be the start of this rest of a stream. At the end of input they are all of it.
abbrev pub MayBe : (eof : Bool) (bytes rest : List ℕ) → Type 0
MayBe true bytes rest = rest ≡ bytes
MayBe false bytes rest = (more : List ℕ) × (rest ≡ bytes ++ more)

-- More bytes may come, and these do not decide the next event: at least `hint` more are needed.
abbrev pub IsUndecided : ParserState → (eof : Bool) (bytes : List ℕ) (hint : ℕ) → Type 0
IsUndecided p eof bytes hint = (eof ≡ false) × ((need : ℕ) × (waiting (grammar_of p) bytes ≡ wants need hint))

-- The result reports this event, which comes after the prefix of the stream. It is a part that consumed the bytes of
-- the event, and the parser is then after them; or a fault, which leaves the parser unchanged; or a request for more
-- bytes, because these do not decide the event.
abbrev pub GivesEvent : Event → ParserState → (eof : Bool) (start : ℕ) (prefix bytes : List ℕ) → Answer → ParserState
    → Type 0
GivesEvent e old eof start prefix bytes (asks hint) new = IsUndecided old eof bytes hint × (new ≡ old)
GivesEvent e old eof start prefix bytes (reports report consumed) new = (report ≡ e.report)
    × (consumed ≡ length e.consumed) × (take consumed bytes ≡ e.consumed)
    × IsStateAfter new start (prefix ++ e.consumed) × (new.features ≡ old.features)
GivesEvent e old eof start prefix bytes (refuses f) new =
    (e.report ≡ stream_end (fault f)) × (e.consumed ≡ []) × (new ≡ old)

-- A stream around a parser: the parser is after a prefix, the rest begins with these bytes, and the stream has a
-- reading.
pub record StreamAround (p : ParserState) (eof : Bool) (bytes : List ℕ) : Type 0 where
  pub start : ℕ
  pub prefix : List ℕ
  pub rest : List ℕ
  pub events : List Event
  pub may_be : MayBe eof bytes rest
  pub is_after : IsStateAfter p start prefix
  pub below : start + length prefix + length rest < 2 ^ 64
  pub reading : Reading (prefix ++ rest) start p.features events

-- | wherever the parser is in a stream: the next event of the stream's reading is reported, its bytes are consumed,
--   and the parser is after it with the same features; a fault changes nothing [`GivesEvent`]
-- In every stream around the parser, the result reports the next event of the reading, the first one after the events
-- that consume the prefix, or is a request for more bytes.
abbrev pub GivesNextEvent : ParserState → (eof : Bool) (bytes : List ℕ) → Answer → ParserState → Type 0
GivesNextEvent old eof bytes answer new = (s : StreamAround old eof bytes) (next : NextEvent s.events s.prefix)
    → GivesEvent next.event old eof s.start s.prefix bytes answer new
