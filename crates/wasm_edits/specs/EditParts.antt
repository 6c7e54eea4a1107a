-- One step of editing a stream in memory.
use Rattle.std.specs.Prelude.{◌≡◌, ◌⊎◌, ℕ, ◌+◌, ◌-◌, ◌<◌, ◌≤◌, ◌^◌, List, ◌∷◌, [], ◌++◌, length, take, drop}
use Rattle.std.specs.Prelude.{Option, Some, None, Result, Ok, Err, true, false}
use Rattle.wasm_base.specs.Features.{all_features}
use Rattle.wasm_base.specs.declared.error.Error.{Error}
use Rattle.wasm_edits.specs.Edits.{CanBeWritten, edited_bytes, new_bytes, report_fate}
use Rattle.wasm_edits.specs.Stripped.{EndsWithFault}
use Rattle.wasm_edits.specs.declared.edits.Edit.{Edit}
use Rattle.wasm_edits.specs.declared.editing.Part.{Part}
use Rattle.wasm_streams.specs.Feed.{Feed}
use Rattle.wasm_grammar.specs.Content.{ended}
use Rattle.wasm_frames.specs.Answer.{is_end}
use Rattle.wasm_grammar.specs.Reading.{Event, last_event, Reading, Report}
use Rattle.wasm_frames.specs.Along.{Along}

-- This is the part with this report and these bytes, or the end.
abbrev pub IsEditedPart : List Edit → Report → (bytes : List ℕ) → Option Part → Type 0
IsEditedPart edits report bytes (Some part) =
    (is_end report ≡ false) × (part.bytes.now ≡ bytes) × (part.fate ≡ report_fate edits report)
IsEditedPart edits report bytes None = is_end report ≡ true

-- What is next in a stream after these events: an event with these bytes, and what becomes of it; or the end; or a
-- fault.
abbrev pub EditedPartComes : List Edit → (stream : List ℕ) → List Event → Result (Option Part) Error → Feed → Type 0
EditedPartComes edits stream events (Ok (Some part)) new = (e : Event) × (e.consumed ≡ part.bytes.now)
    × (part.fate ≡ report_fate edits e.report) × Along 0 all_features stream new.state new.held (events ++ e ∷ [])
EditedPartComes edits stream events (Ok None) new = (offset : ℕ)
    × Reading stream 0 all_features (events ++ last_event (ended offset) ∷ [])
EditedPartComes edits stream events (Err e) new = EndsWithFault stream e

-- the same wherever the feeder was
abbrev pub TakesEditedPart : List Edit → (old : Feed) → Result (Option Part) Error → (new : Feed) → Type 0
TakesEditedPart edits old result new = (stream : List ℕ) (events : List Event)
    → Along 0 all_features stream old.state old.held events → length stream < 2 ^ 64
    → EditedPartComes edits stream events result new

-- Fewer bytes are held after a part.
abbrev pub HoldsLess : (old : Feed) → Result (Option Part) Error → (new : Feed) → Type 0
HoldsLess old (Ok (Some part)) new = length new.held < length old.held
HoldsLess old (Ok None) new = Unit {0}
HoldsLess old (Err e) new = Unit {0}

-- What becomes of the part can be written.
abbrev pub PartFits : Result (Option Part) Error → Type 0
PartFits (Ok (Some part)) = CanBeWritten part.fate
PartFits (Ok None) = Unit {0}
PartFits (Err e) = Unit {0}

-- a part is the bytes between two marks
abbrev pub Passes : (bytes : List ℕ) (old : ℕ) → Result (Option Part) Error → (new : ℕ) → Type 0
Passes bytes old (Ok (Some part)) new = (new ≡ old + length part.bytes.now)
    × (drop old bytes ≡ part.bytes.now ++ drop new bytes)
Passes bytes old (Ok None) new = Unit {0}
Passes bytes old (Err e) new = Unit {0}

-- | the parts so far of a stream that is edited, and what becomes of the next one; the bytes that are written of all of
--   it [`EditedPartComes`; `HasEdited`, `ReadsEdited`]
-- A stream was read so far, and these are the bytes that are written of its events.
abbrev pub HasEdited : List Edit → (stream : List ℕ) → Feed → (bytes : List ℕ) → Type 0
HasEdited edits stream feed bytes = (events : List Event) × Along 0 all_features stream feed.state feed.held events
    × (bytes ≡ edited_bytes edits events)

-- The stream is read up to its end, and these are the bytes that are written of its events.
pub record ReadsEdited (edits : List Edit) (stream bytes : List ℕ) : Type 0 where
  pub events : List Event
  pub offset : ℕ
  pub reading : Reading stream 0 all_features (events ++ last_event (ended offset) ∷ [])
  pub written : bytes ≡ edited_bytes edits events

-- a length, or the greatest number if that is less
abbrev pub IsLength : (size : ℕ) → List ℕ → Type 0
IsLength size bytes = (size ≡ length bytes) ⊎ ((size ≡ 2 ^ 64 - 1) × (2 ^ 64 - 1 ≤ length bytes))

-- There is room for an edited stream.
abbrev pub HasRoom : List Edit → (stream out : List ℕ) → Type 0
HasRoom edits stream out = (bytes : List ℕ) × ReadsEdited edits stream bytes
    × (length (bytes ++ new_bytes edits) ≤ length out)

-- It was written to the front, and the bytes after it are as before.
abbrev pub WritesEdited : List Edit → (stream old : List ℕ) → Result ℕ Error → (new : List ℕ) → Type 0
WritesEdited edits stream old (Ok size) new = (bytes : List ℕ) × ReadsEdited edits stream bytes
    × (size ≡ length (bytes ++ new_bytes edits)) × (take size new ≡ bytes ++ new_bytes edits)
    × (drop size new ≡ drop size old)
WritesEdited edits stream old (Err e) new = ⊥

-- the kept bytes of a stream were moved to its front, and are this many, if it has no fault
abbrev pub MovesKept : List Edit → (stream : List ℕ) → Result ℕ Error → (after : List ℕ) → Type 0
MovesKept edits stream (Ok size) after = ReadsEdited edits stream (take size after) × (size ≤ length after)
    × (length after ≡ length stream)
MovesKept edits stream (Err e) after = EndsWithFault stream e
