-- A stream without its custom sections. Core specification, Binary format, Modules, Custom Section.
use Rattle.std.specs.Prelude.{◌≡◌, ◌≤◌, ℕ, ◌+◌, Bool, false, ◌||◌, not, List, [], ◌∷◌, ◌++◌, length, take}
use Rattle.std.specs.Prelude.{filter}
use Rattle.std.specs.Prelude.{flat_map, nat_eq, Vec, Some, Result, Ok, Err, if◌then◌else◌}
use Rattle.std.specs.List.{AllZip}
use Rattle.wasm_base.specs.FaultAt.{fault_at}
use Rattle.wasm_base.specs.Name.{Name, named, refused, name_limit, name}
use Rattle.wasm_base.specs.Owned.{out_of_memory}
use Rattle.wasm_base.specs.declared.error.Error.{Error}
use Rattle.wasm_grammar.specs.Accepted.{header_bytes, SectionFrame, frame_bytes, IsAccepted}
use Rattle.wasm_grammar.specs.Content.{fault}
use Rattle.wasm_grammar.specs.Reading.{Event, last_event, Reading}
use Rattle.wasm_grammar.specs.Shifted.{shifted_event}
use Rattle.wasm_grammar.specs.declared.encoding.Encoding.{Encoding}
use Rattle.wasm_base.specs.Features.{all_features}
use Rattle.wasm_grammar.specs.Ids.{custom_id}
use Rattle.wasm_edits.specs.Fates.{report_stays}

-- a section without a name would go, but an accepted stream has none
abbrev pub name_stays : (keeps : List ℕ → Bool) → Name → Bool
name_stays keeps (named text used) = keeps text
name_stays keeps (refused f place) = false

-- whether a section stays: each does that isn't custom
abbrev pub frame_stays : (keeps : List ℕ → Bool) → SectionFrame → Bool
frame_stays keeps f = not (nat_eq f.id custom_id) || name_stays keeps (name (Some name_limit) f.sized.content)

-- | what remains of a stream: its header and the sections that stay, which are those that aren't custom and the
--   custom ones whose names are chosen [`frame_stays`] <Custom Section, Name Section>
-- a header and these sections after stripping: the header, and the sections that stay, each with all its bytes; that
-- these are the bytes of the events that stay follows, because sections determine events
abbrev pub stripped : (keeps : List ℕ → Bool) → Encoding → List SectionFrame → List ℕ
stripped keeps encoding frames = header_bytes encoding ++ flat_map frame_bytes (filter (frame_stays keeps) frames)

abbrev pub event_stays : (keeps : List ℕ → Bool) → Event → Bool
event_stays keeps e = report_stays keeps e.report

-- the events that stay, each with the number of bytes that were dropped before it, which is `dropped` before the first
-- event
abbrev pub staying : (keeps : List ℕ → Bool) (dropped : ℕ) → List Event → List (ℕ × Event)
staying keeps dropped [] = []
staying keeps dropped (e ∷ events) =
    if event_stays keeps e then (dropped, e) ∷ staying keeps dropped events else
    staying keeps (dropped + length e.consumed) events

-- The second event is the first one, with the same numbers and bytes and at offsets that are less by these bytes.
abbrev pub IsMovedBack : ℕ × Event → Event → Type 0
IsMovedBack s e = s.1 ≡ shifted_event s.0 e

-- | the events that remain of others: those that stay, each at offsets that are less by the bytes dropped before it
abbrev pub AreKept : (keeps : List ℕ → Bool) → List Event → List Event → Type 0
AreKept keeps events kept = AllZip IsMovedBack (staying keeps 0 events) kept

-- | these bytes remain of an accepted stream, are accepted, and are read this way; for another stream the fault is
--   reported; in the stream's own bytes, at their front, or in separate memory, it is then left unchanged
--   [`RefusesToStrip`, `Strips`; `LeavesStream`, `StripsToFront`, `StripsInPlace`]
-- The stream is accepted, and these are its bytes after stripping: they are accepted too, and are read like the stream,
-- except for the events that were dropped. This holds for every set of features, though stripping reads with all.
pub record IsStripped (keeps : List ℕ → Bool) (stream kept : List ℕ) : Type 0 where
  pub accepted : IsAccepted stream
  pub bytes : kept ≡ stripped keeps accepted.encoding accepted.frames
  pub still : IsAccepted kept
  pub reading : (features : ℕ) (events : List Event) → Reading stream 0 features events
      → (others : List Event) × Reading kept 0 features others × AreKept keeps events others

-- The reading of the stream ends with this fault.
abbrev pub EndsWithFault : (stream : List ℕ) → Error → Type 0
EndsWithFault stream e = (events : List Event) × Reading stream 0 all_features
    (events ++ last_event (fault (fault_at e)) ∷ [])

-- Of an accepted stream only memory was refused; the reading of another ends with this fault.
pub record RefusesToStrip (stream : List ℕ) (e : Error) : Type 0 where
  pub memory : IsAccepted stream → fault_at e ≡ out_of_memory
  pub fault : ¬ IsAccepted stream → EndsWithFault stream e

-- The stream was stripped, or refused.
abbrev pub Strips : {A : Type 0} → (keeps : List ℕ → Bool) (stream : List ℕ) → Result (Vec ℕ A) Error → Type 0
Strips keeps stream (Ok kept) = IsStripped keeps stream kept.items
Strips keeps stream (Err e) = RefusesToStrip stream e

-- The stream is not accepted, ends with this fault, and was left as it was.
pub record LeavesStream (stream : List ℕ) (e : Error) (after : List ℕ) : Type 0 where
  pub refused : ¬ IsAccepted stream
  pub fault : EndsWithFault stream e
  pub unchanged : after ≡ stream

-- Like `Strips`, in the stream's own bytes: the stripped bytes are the first ones, and their number is returned.
abbrev pub StripsToFront : (keeps : List ℕ → Bool) (stream : List ℕ) → Result ℕ Error → (after : List ℕ) → Type 0
StripsToFront keeps stream (Ok size) after = IsStripped keeps stream (take size after) × (size ≤ length after)
    × (length after ≡ length stream)
StripsToFront keeps stream (Err e) after = LeavesStream stream e after

-- Like `Strips`, in the stream's own memory.
abbrev pub StripsInPlace : (keeps : List ℕ → Bool) (stream : List ℕ) → Result (Unit {0}) Error → (after : List ℕ)
    → Type 0
StripsInPlace keeps stream (Ok done) after = IsStripped keeps stream after
StripsInPlace keeps stream (Err e) after = LeavesStream stream e after

-- stripping a second time changes nothing
abbrev pub StrippingTwiceIsOnce : Type 0
StrippingTwiceIsOnce =
    (keeps : List ℕ → Bool) (stream once twice : List ℕ) → IsStripped keeps stream once
    → IsStripped keeps once twice → twice ≡ once
