-- The events of a reading as values.
use Rattle.std.specs.Prelude.{◌≡◌, ℕ, Bool, true, false, List, Option, Some, None}
use Rattle.std.specs.List.{AllZip}
use Rattle.std.specs.declared.ops.Range.{Range}
use Rattle.wasm_base.specs.FaultAt.{FaultAt, fault_at}
use Rattle.wasm_base.specs.Window.{range_of}
use Rattle.wasm_grammar.specs.Content.{fault, ended}
use Rattle.wasm_grammar.specs.Reading as reading
use Rattle.wasm_grammar.specs.Reading.{Report, version, counted, start_section, data_count_section, code_start}
use Rattle.wasm_grammar.specs.Reading.{code_entry, custom_section, unknown_section, stream_end, last_event}
use Rattle.wasm_streams.specs.Step.{Told, Part, Request, Stop}
use Rattle.wasm_feed.specs.declared.events.Event.{Event}
use Rattle.wasm_feed.specs.declared.events.EventKind.{EventKind}
use Rattle.wasm_feed.specs.declared.events.EventKind.TheVariants.{Version, Section, Start, DataCount, Code, Body}
use Rattle.wasm_feed.specs.declared.events.EventKind.TheVariants.{Custom, Unknown, End, Fault}

-- The kind is this fault.
abbrev pub IsFaultOf : FaultAt → EventKind → Type 0
IsFaultOf f (Fault e) = fault_at e ≡ f
IsFaultOf f other = ⊥

-- | an event of a reading as a value: its kind and numbers, its offsets, its bytes [`offsets_of`, `IsEvent`]
-- The kind is that of what was reported, with its numbers.
abbrev pub IsKindOf : Report → EventKind → Type 0
IsKindOf (version num encoding from to) kind = kind ≡ Version num encoding
IsKindOf (counted id count window) kind = kind ≡ Section id count
IsKindOf (start_section func from to) kind = kind ≡ Start func
IsKindOf (data_count_section count from to) kind = kind ≡ DataCount count
IsKindOf (code_start count from to size) kind = kind ≡ Code count size
IsKindOf (code_entry window) kind = kind ≡ Body
IsKindOf (custom_section name data_offset window) kind = kind ≡ Custom data_offset
IsKindOf (unknown_section id contents from to) kind = kind ≡ Unknown id
IsKindOf (stream_end (ended offset)) kind = kind ≡ End
IsKindOf (stream_end (fault f)) kind = IsFaultOf f kind

abbrev between : (from to : ℕ) → Range ℕ
between from to = record { start = from; end = to }

-- the offsets of what was reported; those of a fault and of the end are empty
abbrev pub offsets_of : Report → Range ℕ
offsets_of (version num encoding from to) = between from to
offsets_of (counted id count window) = range_of window
offsets_of (start_section func from to) = between from to
offsets_of (data_count_section count from to) = between from to
offsets_of (code_start count from to size) = between from to
offsets_of (code_entry window) = range_of window
offsets_of (custom_section name data_offset window) = range_of window
offsets_of (unknown_section id contents from to) = between from to
offsets_of (stream_end (ended offset)) = between offset offset
offsets_of (stream_end (fault f)) = between f.offset f.offset

-- The value is this event: its kind, its offsets, and the bytes that it consumed.
pub record IsEvent {A : Type 0} (event : reading.Event) (value : Event A) : Type 0 where
  pub kind : IsKindOf event.report value.kind
  pub range : value.range ≡ offsets_of event.report
  pub bytes : value.bytes.items ≡ event.consumed

-- The values are these events, in order.
abbrev pub AreEvents : {A : Type 0} → List reading.Event → List (Event A) → Type 0
AreEvents events values = AllZip IsEvent events values

-- whether an event of this kind is the last one
abbrev pub is_last : EventKind → Bool
is_last End = true
is_last (Fault e) = true
is_last other = false

-- what is made of a step: nothing of a request, and elsewhere its event
abbrev pub IsEventOfStep : {A : Type 0} → Told → Option (Event A) → Type 0
IsEventOfStep (Request hint) None = Unit {0}
IsEventOfStep (Part report bytes) (Some value) =
    IsEvent (record { report = report; consumed = bytes }) value
IsEventOfStep (Stop e) (Some value) = IsEvent (last_event (fault (fault_at e))) value
IsEventOfStep other value = ⊥
