-- The position of a caller in a stream that arrives in chunks, and what each result means for every stream that begins
-- with the bytes so far.
use Rattle.std.specs.Prelude.{◌≡◌, ℕ, ◌+◌, ◌<◌, ◌≤◌, ◌^◌, Bool, true, false, List, [], ◌∷◌, ◌++◌, length}
use Rattle.wasm_base.specs.FaultAt.{at_offset}
use Rattle.wasm_base.specs.declared.fault.Fault.TheVariants.{OffsetRange}
use Rattle.wasm_grammar.specs.Content.{Ending, fault, ended}
use Rattle.wasm_grammar.specs.EventRanges.{consumed_by}
use Rattle.wasm_frames.specs.Frame.{IsPartOrEnd}
use Rattle.wasm_frames.specs.GivesNextEvent.{MayBe, IsUndecided}
use Rattle.wasm_frames.specs.Answer.{Answer, Consumes, GivesAnswer, asks, is_end, refuses, reports, state_after_result}
use Rattle.wasm_frames.specs.ParserState.{ParserState, IsStateAfter, initial_state, grammar_of}
use Rattle.wasm_grammar.specs.Reading.{Report, Event, events_of, last_event, Reading}
use Rattle.wasm_grammar.specs.Waiting.{wants, waiting}

-- | where a caller is along a stream that it passes in chunks: the input so far is what the parser consumed, read as
--   the events so far, and what is held [`ReadingBegins`]
-- The bytes so far, `given`, are those that the parser has consumed, read as these events, and those that are `held`.
pub record Along (start features : ℕ) (given : List ℕ) (p : ParserState) (held : List ℕ) (events : List Event) : Type
    0 where
  pub prefix : List ℕ
  pub is_after : IsStateAfter p start prefix
  pub whole : given ≡ prefix ++ held
  pub has_features : p.features ≡ features
  pub listed : events ≡ events_of start features is_after.tiles

-- The reading of the stream begins with these events.
pub record ReadingBegins (start features : ℕ) (stream : List ℕ) (first : List Event) : Type 0 where
  pub events : List Event
  pub more : List Event
  pub reading : Reading stream start features events
  pub begins : events ≡ first ++ more

-- The reading of each stream that may begin with these bytes begins with these events.
abbrev pub BeginsEach : (start features : ℕ) (eof : Bool) (given : List ℕ) (first : List Event) → Type 0
BeginsEach start features eof given first =
    (stream : List ℕ) → MayBe eof given stream → ReadingBegins start features stream first

-- The reading of each stream that may begin with these bytes is these events.
abbrev pub ReadsEach : (start features : ℕ) (eof : Bool) (given : List ℕ) (events : List Event) → Type 0
ReadsEach start features eof given events =
    (stream : List ℕ) → MayBe eof given stream → Reading stream start features events

-- This is the report of the next event, which consumed these bytes. The parser is then after it, or it was the end.
pub record Came (start features : ℕ) (eof : Bool) (given : List ℕ) (events : List Event) (bytes : List ℕ)
    (report : Report) (new : ParserState) (rest : List ℕ) : Type 0 where
  pub event : Event
  pub is_report : report ≡ event.report
  pub consumed : event.consumed ≡ bytes
  pub begins : BeginsEach start features eof given (events ++ event ∷ [])
  pub goes_on : is_end report ≡ false → Along start features given new rest (events ++ event ∷ [])
      × (0 < length bytes)
  pub ends : is_end report ≡ true → ReadsEach start features eof given (events ++ event ∷ [])
  pub last : is_end report ≡ true → (offset : ℕ) × (event ≡ last_event (ended offset))

-- | what a result then says of each stream that continues this way: more is requested, the next event came, or the
--   fault is its last [`Came`, `ReadsEach`, `BeginsEach`]
-- what a result that consumed these bytes means for each such stream: more bytes are needed, the part is the next
-- event, or the fault is the last event
abbrev pub GoesAlong : (start features : ℕ) (eof : Bool) (given : List ℕ) (events : List Event) → Answer
    → (bytes : List ℕ) (new : ParserState) (rest : List ℕ) → Type 0
GoesAlong start features eof given events (asks hint) bytes new rest =
    IsUndecided new eof rest hint × Along start features given new rest events
GoesAlong start features eof given events (reports report consumed) bytes new rest =
    Came start features eof given events bytes report new rest
GoesAlong start features eof given events (refuses f) bytes new rest =
    ReadsEach start features eof given (events ++ last_event (fault f) ∷ [])
    × Along start features given new rest events

-- the number of bytes that a result consumes
abbrev pub taken_by : Answer → ℕ
taken_by (asks hint) = 0
taken_by (reports report consumed) = consumed
taken_by (refuses f) = 0

-- The result is no fault.
abbrev pub IsNoFault : Answer → Type 0
IsNoFault (asks hint) = Unit {0}
IsNoFault (reports report consumed) = Unit {0}
IsNoFault (refuses f) = ⊥

-- whether a result is the end or a fault
abbrev pub is_last : Answer → Bool
is_last (asks hint) = false
is_last (reports report consumed) = is_end report
is_last (refuses f) = true

-- What a caller with its own loop can rely on, if it passes unconsumed bytes again.
pub record AnswersGoAlong : Type 0 where
  -- a new parser is at the start, before any bytes
  pub begins : (start features : ℕ) → Along start features [] (initial_state start features) [] []
  -- a chunk arrives
  pub more : (start features : ℕ) (given : List ℕ) (p : ParserState) (held : List ℕ) (events : List Event)
      (piece : List ℕ) → Along start features given p held events
      → Along start features (given ++ piece) p (held ++ piece) events
  -- the held bytes end at the same offset as the bytes so far
  pub ends : (start features : ℕ) (given : List ℕ) (p : ParserState) (held : List ℕ) (events : List Event)
      → Along start features given p held events → p.offset + length held ≡ start + length given
  -- the events so far begin the reading of each stream that may begin with the bytes so far
  pub first : (start features : ℕ) (given : List ℕ) (p : ParserState) (held : List ℕ) (events : List Event) (eof : Bool)
      → Along start features given p held events → BeginsEach start features eof given events
  -- a result is the next event of each such stream
  pub answers : (start features : ℕ) (given : List ℕ) (p : ParserState) (held : List ℕ) (events : List Event)
      (eof : Bool) (answer : Answer) (bytes : List ℕ) (new : ParserState) (rest : List ℕ)
      → Along start features given p held events → start + length given < 2 ^ 64
      → GivesAnswer p eof held answer new → held ≡ bytes ++ rest → length bytes ≡ taken_by answer
      → GoesAlong start features eof given events answer bytes new rest
  -- a stream that ends where more is requested has exactly one more event
  pub cut_short : (start features : ℕ) (given : List ℕ) (p : ParserState) (held : List ℕ) (events : List Event)
      (eof : Bool) (hint : ℕ) → Along start features given p held events → IsUndecided p eof held hint → (end : Ending)
      × Reading given start features (events ++ last_event end ∷ [])
  -- the bytes so far are those that the events consumed and those that are held
  pub consumed : (start features : ℕ) (given : List ℕ) (p : ParserState) (held : List ℕ) (events : List Event)
      → Along start features given p held events → given ≡ consumed_by events ++ held
  -- a result consumes held bytes, and a part other than the end at least one
  pub consumes : (p new : ParserState) (eof : Bool) (held : List ℕ) (answer : Answer)
      → GivesAnswer p eof held answer new → Consumes held answer
  pub takes_some : (p new : ParserState) (eof : Bool) (held : List ℕ) (consumed : ℕ) (report : Report)
      → GivesAnswer p eof held (reports report consumed) new → is_end report ≡ false → 0 < consumed
  -- a part that is returned is no fault
  pub is_part : (p new : ParserState) (eof : Bool) (held : List ℕ) (report : Report) (consumed : ℕ)
      → GivesAnswer p eof held (reports report consumed) new → IsPartOrEnd report
  -- unless the result is a fault, the held bytes end within the offsets; after a request they are undecided
  pub below : (p new : ParserState) (eof : Bool) (held : List ℕ) (answer : Answer) → GivesAnswer p eof held answer new
      → IsNoFault answer → p.offset + length held < 2 ^ 64
  pub asks : (p new : ParserState) (eof : Bool) (held : List ℕ) (hint : ℕ)
      → GivesAnswer p eof held (asks hint) new → IsUndecided p eof held hint
  -- undecided bytes are shorter than their bound
  pub bounded : (p : ParserState) (held : List ℕ) (need hint : ℕ) → waiting (grammar_of p) held ≡ wants need hint
      → length held < need
  -- held bytes that exceed the largest offset are the fault `OffsetRange`
  pub past_the_top : (p new : ParserState) (eof : Bool) (held : List ℕ) (answer : Answer)
      → GivesAnswer p eof held answer new → 2 ^ 64 ≤ p.offset + length held
      → answer ≡ refuses (at_offset OffsetRange p.offset)
  -- the state after a result
  pub becomes : (p new : ParserState) (eof : Bool) (held : List ℕ) (answer : Answer)
      → GivesAnswer p eof held answer new → new ≡ state_after_result p answer
  -- the result is determined by the state and the held bytes
  pub once : (p new other : ParserState) (eof : Bool) (held : List ℕ) (one two : Answer)
      → GivesAnswer p eof held one new → GivesAnswer p eof held two other → one ≡ two
  -- after the end or a fault, the next call returns it again
  pub again : (p new other : ParserState) (eof : Bool) (held : List ℕ) (one two : Answer) → is_last one ≡ true
      → GivesAnswer p eof held one new → GivesAnswer new eof held two other → one ≡ two
