-- A stream whose first custom section with a name is replaced.
use Rattle.std.specs.Prelude.{◌≡◌, ℕ, ◌<◌, ◌^◌, true, false, List, [], ◌∷◌, ◌++◌, drop, length, Option, Some, None}
use Rattle.std.specs.Prelude.{Result, Ok, Err, if◌then◌else◌}
use Rattle.wasm_base.specs.Features.{all_features}
use Rattle.wasm_base.specs.declared.error.Error.{Error}
use Rattle.wasm_edits.specs.Encoded.{encoded_section}
use Rattle.wasm_edits.specs.Stripped.{EndsWithFault}
use Rattle.wasm_edits.specs.declared.encoding.NewSection.{NewSection}
use Rattle.wasm_frames.specs.Along.{Along}
use Rattle.wasm_frames.specs.Answer.{is_end}
use Rattle.wasm_grammar.specs.Content.{ended}
use Rattle.wasm_grammar.specs.EventRanges.{consumed_by}
use Rattle.wasm_grammar.specs.Reading.{Event, Reading, Report, last_event}
use Rattle.wasm_streams.specs.declared.cursor.Cursor.{Cursor}
use Rattle.wasm_commands.specs.Finding.{has_name, named_count}
use Rattle.wasm_commands.specs.declared.around.Around.{Around}
use Rattle.wasm_commands.specs.declared.around.Part.{Part}

-- ---- the first custom section with a name

-- Among these events, this one is the first custom section with the name.
pub record IsFirst (name : List ℕ) (events first : List Event) (event : Event) : Type 0 where
  pub later : List Event
  pub listed : events ≡ first ++ event ∷ later
  pub named : has_name name event.report ≡ true
  pub before : named_count name first ≡ 0

-- The bytes of a stream before and after that section.
pub record IsAround (name stream : List ℕ) (events : List Event) (around : Around) : Type 0 where
  pub first : List Event
  pub event : Event
  pub is_first : IsFirst name events first event
  pub front : around.before.now ≡ consumed_by first
  pub whole : stream ≡ consumed_by first ++ (event.consumed ++ around.after.now)

-- what is around the section, if there is one among these events
abbrev pub IsAroundIfAny : (name stream : List ℕ) → List Event → Option Around → Type 0
IsAroundIfAny name stream events (Some around) = IsAround name stream events around
IsAroundIfAny name stream events None = named_count name events ≡ 0

-- The stream is read to its end, and has this around its first custom section with the name, if it has one.
pub record ReadsToEnd (name stream : List ℕ) (around : Option Around) : Type 0 where
  pub events : List Event
  pub offset : ℕ
  pub reading : Reading stream 0 all_features (events ++ last_event (ended offset) ∷ [])
  pub found : IsAroundIfAny name stream events around

-- | the first custom section with a name in a stream that is read to its end, and the bytes around it; or the fault of
--   the stream [`IsFirst`, `IsAround`]
-- what was found in a stream, or its fault
abbrev pub FindsFirst : (name stream : List ℕ) → Result (Option Around) Error → Type 0
FindsFirst name stream (Ok around) = ReadsToEnd name stream around
FindsFirst name stream (Err e) = EndsWithFault stream e

-- | a stream whose first custom section with a name is another one: all other bytes are the same [`IsFirst`]
-- The first custom section with the name of the new one is replaced by that. The bytes before and after it stay.
pub record ReplacesFirst (new : NewSection) (stream result : List ℕ) : Type 0 where
  pub events : List Event
  pub offset : ℕ
  pub reading : Reading stream 0 all_features (events ++ last_event (ended offset) ∷ [])
  pub first : List Event
  pub event : Event
  pub is_first : IsFirst new.name.now events first event
  pub after : List ℕ
  pub whole : stream ≡ consumed_by first ++ (event.consumed ++ after)
  pub bytes : result ≡ consumed_by first ++ (encoded_section new ++ after)

-- ---- one part of the stream

-- This is the part with this report, and what is around it; none is the end.
abbrev pub IsPartOf : (name : List ℕ) → Report → Around → Option Part → Type 0
IsPartOf name report around (Some part) =
    (is_end report ≡ false) × (part.is_named ≡ has_name name report) × (part.around ≡ around)
IsPartOf name report around None = is_end report ≡ true

-- The next event came after these.
pub record EventComes (name stream : List ℕ) (events : List Event) (part : Part) (new : Cursor) : Type 0 where
  pub event : Event
  pub named : has_name name event.report ≡ part.is_named
  pub along : Along 0 all_features stream new.parser (drop new.mark stream) (events ++ event ∷ [])
  pub front : part.around.before.now ≡ consumed_by events
  pub whole : stream ≡ consumed_by events ++ (event.consumed ++ part.around.after.now)

-- what comes after these events: a part, the end, or a fault
abbrev pub PartComes : (name stream : List ℕ) → List Event → Result (Option Part) Error → (new : Cursor) → Type 0
PartComes name stream events (Ok (Some part)) new = EventComes name stream events part new
PartComes name stream events (Ok None) new =
    (offset : ℕ) × Reading stream 0 all_features (events ++ last_event (ended offset) ∷ [])
PartComes name stream events (Err e) new = EndsWithFault stream e

-- the same wherever the cursor was
abbrev pub TakesPart : (name stream : List ℕ) (old : Cursor) → Result (Option Part) Error → (new : Cursor) → Type 0
TakesPart name stream old result new = (events : List Event)
    → Along 0 all_features stream old.parser (drop old.mark stream) events → length stream < 2 ^ 64
    → PartComes name stream events result new

-- Fewer bytes remain after a part.
abbrev pub GoesOn : (stream : List ℕ) (old : Cursor) → Result (Option Part) Error → (new : Cursor) → Type 0
GoesOn stream old (Ok (Some part)) new = length (drop new.mark stream) < length (drop old.mark stream)
GoesOn stream old (Ok None) new = Unit {0}
GoesOn stream old (Err e) new = Unit {0}

-- the section that was found so far, or else this part if it is one
abbrev pub first_found : Option Around → Part → Option Around
first_found (Some around) part = Some around
first_found None part = if part.is_named then Some part.around else None

-- How far a search has come: the events so far, and what was found among them.
pub record Sought (name stream : List ℕ) (cursor : Cursor) (found : Option Around) : Type 0 where
  pub events : List Event
  pub along : Along 0 all_features stream cursor.parser (drop cursor.mark stream) events
  pub so_far : IsAroundIfAny name stream events found
