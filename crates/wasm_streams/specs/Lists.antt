-- What a listing has written.
use Rattle.std.specs.Prelude.{◌≡◌, ◌⊎◌, ℕ, ◌<◌, ◌≤◌, ◌^◌, List, [], ◌∷◌, ◌++◌, length, Option, IfSome}
use Rattle.std.specs.Prelude.{Result, Ok, Err}
use Rattle.std.specs.Io.KnownBytes.{Consumes, Appends, IsAtEnd, Keeps}
use Rattle.std.specs.List.{flat_map}
use Rattle.wasm_base.specs.FaultAt.{fault_at, at_offset}
use Rattle.wasm_base.specs.declared.fault.Fault.TheVariants.{OffsetRange}
use Rattle.wasm_grammar.specs.Content.{Ending, fault, ended}
use Rattle.wasm_grammar.specs.EventRanges.{consumed_by}
use Rattle.wasm_grammar.specs.Reading.{Report, Event, last_event, Reading}
use Rattle.wasm_frames.specs.Along.{ReadingBegins}
use Rattle.wasm_io.specs.Calls.{Change}
use Rattle.wasm_streams.specs.Feed.{Feed, pushed, finished}
use Rattle.wasm_streams.specs.declared.turns.Ended.{Ended}
use Rattle.wasm_streams.specs.declared.turns.Ended.TheVariants.{End, Fault}
use Rattle.wasm_io.specs.declared.devices.ListError.{ListError}
use Rattle.wasm_io.specs.declared.devices.ListError.TheVariants.{Input, Output, Memory}
use Rattle.wasm_base.specs.Features.{all_features}

-- events by such lines: the text of each, by what it reports
abbrev pub listing_by : (Report → List ℕ) → List Event → List ℕ
listing_by text_of events = flat_map (λ e. text_of e.report) events

-- the run ended as the stream does
abbrev pub IsEndedBy : Ended → Ending → Type 0
IsEndedBy End (ended offset) = Unit {0}
IsEndedBy End (fault f) = ⊥
IsEndedBy (Fault e) (fault f) = fault_at e ≡ f
IsEndedBy (Fault e) (ended offset) = ⊥

-- The bytes that the source gave are read as these events, and so is its whole input.
pub record IsWhole (source : Option (List ℕ)) (given : List ℕ) (events : List Event) : Type 0 where
  pub reading : Reading given 0 all_features events
  pub all : IfSome source (λ input. Reading input 0 all_features events)

-- | what a listing has written if the input passes the largest offset
-- The bytes that the source gave pass the top of the offsets, which is the fault after these events of theirs, at the
-- offset where these end: the parser's.
pub record PassesTop (given : List ℕ) (first : List Event) (end : Ending) : Type 0 where
  pub begins : ReadingBegins 0 all_features given first
  pub is_fault : end ≡ fault (at_offset OffsetRange (length (consumed_by first)))

-- Written is the listing of all events of what the source gave, and the run ended as they do. `within` is about streams
-- below the largest offset, because only these have a reading.
pub record IsListed (text_of : Report → List ℕ) (input output : Change) (how : Ended) : Type 0 where
  pub given : List ℕ
  pub first : List Event
  pub end : Ending
  pub gave : Consumes input.before input.after given
  pub listed : Appends output.before output.after (listing_by text_of (first ++ last_event end ∷ []))
  pub ends : IsEndedBy how end
  pub within : length given < 2 ^ 64 → IsWhole input.before given (first ++ last_event end ∷ [])
  pub past_the_top : 2 ^ 64 ≤ length given → PassesTop given first end

-- Written are the lines of all events but the last, of what the source gave.
pub record IsAllButLast (text_of : Report → List ℕ) (input output : Change) : Type 0 where
  pub given : List ℕ
  pub events : List Event
  pub last : Event
  pub gave : Consumes input.before input.after given
  pub listed : Appends output.before output.after (listing_by text_of events)
  pub reading : Reading given 0 all_features (events ++ last ∷ [])

-- a prefix of the listing of a stream
pub record Begins (text_of : Report → List ℕ) (stream shown : List ℕ) : Type 0 where
  pub events : List Event
  pub reading : Reading stream 0 all_features events
  pub more : List ℕ
  pub parts : listing_by text_of events ≡ shown ++ more

-- A prefix of the listing of what the source returned was written.
pub record IsHead (text_of : Report → List ℕ) (input output : Change) : Type 0 where
  pub given : List ℕ
  pub shown : List ℕ
  pub gave : Consumes input.before input.after given
  pub listed : Appends output.before output.after shown
  pub begins : length given < 2 ^ 64 → Begins text_of given shown

-- what a listing of a source by such lines has written at each of its ends
abbrev pub ListsBy : (text_of : Report → List ℕ) (input output : Change) → Result Ended ListError → Type 0
ListsBy text_of input output (Ok how) = IsListed text_of input output how
ListsBy text_of input output (Err Input) = IsAllButLast text_of input output
ListsBy text_of input output (Err Output) = IsHead text_of input output
ListsBy text_of input output (Err Memory) = IsHead text_of input output

-- The source was at its end, which the feeder records; or it returned some bytes, which were pushed.
abbrev pub Fills : (source rest : Option (List ℕ)) → (old new : Feed) → Type 0
Fills source rest old new =
    (Consumes source rest [] × IsAtEnd rest × (new ≡ finished old))
    ⊎ ((piece : List ℕ) × Consumes source rest piece × (0 < length piece) × (new ≡ pushed old piece))

-- what one read did to the source, and to a feeder
abbrev pub Refills : (source rest : Option (List ℕ)) → (old new : Feed) → Result (Unit {0}) ListError → Type 0
Refills source rest old new (Ok done) = Fills source rest old new
Refills source rest old new (Err Input) = Keeps source rest
Refills source rest old new (Err Memory) = (piece : List ℕ) × Consumes source rest piece
Refills source rest old new (Err Output) = ⊥
