-- Where a custom section is found in a stream.
use Rattle.std.specs.Prelude.{◌≡◌, ℕ, ◌≤◌, Bool, true, false, List, [], ◌∷◌, ◌++◌, bytes_eq, filter, length, Option}
use Rattle.std.specs.Prelude.{Some, None}
use Rattle.std.specs.Prelude.{Result, Ok, Err}
use Rattle.wasm_base.specs.FaultAt.{fault_at}
use Rattle.wasm_base.specs.Features.{all_features}
use Rattle.wasm_base.specs.declared.error.Error.{Error}
use Rattle.wasm_custom.specs.Custom.{Custom}
use Rattle.wasm_grammar.specs.Content.{fault}
use Rattle.wasm_grammar.specs.Reading.{Event, Reading, Report, custom_section, last_event}
use Rattle.wasm_frames.specs.Along.{ReadingBegins}
use Rattle.wasm_parser.specs.ParseAnswer.{report_of}
use Rattle.wasm_parser.specs.declared.payload.Payload.{Payload}
use Rattle.wasm_parser.specs.declared.payload.Payload.TheVariants.{CustomSection}

-- whether a part is a custom section with this name
abbrev pub has_name : (name : List ℕ) → Report → Bool
has_name name (custom_section text data_offset window) = bytes_eq text name
has_name name other = false

-- how many custom sections have this name
abbrev pub named_count : (name : List ℕ) → List Event → ℕ
named_count name events = length (filter (λ e. has_name name e.report) events)

-- The payload is this custom section, which has this name, or is none with it.
abbrev pub IsNamedIn : (name : List ℕ) → Payload → Option Custom → Type 0
IsNamedIn name payload (Some section) =
    (report_of payload ≡ report_of (CustomSection section)) × (has_name name (report_of payload) ≡ true)
IsNamedIn name payload None = has_name name (report_of payload) ≡ false

-- The section is a part of the stream, and this many parts before it are custom sections with its name.
pub record ComesAfter (name : List ℕ) (skips : ℕ) (stream : List ℕ) (section : Custom) : Type 0 where
  pub first : List Event
  pub event : Event
  pub begins : ReadingBegins 0 all_features stream (first ++ event ∷ [])
  pub is : event.report ≡ report_of (CustomSection section)
  pub named : has_name name event.report ≡ true
  pub before : named_count name first ≡ skips

-- The stream is read to its end, and has no more custom sections with this name.
pub record HasFewer (name : List ℕ) (skips : ℕ) (stream : List ℕ) : Type 0 where
  pub events : List Event
  pub reading : Reading stream 0 all_features events
  pub few : named_count name events ≤ skips

-- The stream is read to this fault, and has no more custom sections with this name before it.
pub record EndsBefore (name : List ℕ) (skips : ℕ) (stream : List ℕ) (e : Error) : Type 0 where
  pub events : List Event
  pub reading : Reading stream 0 all_features (events ++ last_event (fault (fault_at e)) ∷ [])
  pub few : named_count name events ≤ skips

-- | the custom section that is found by its name, after a number of others with this name [`ComesAfter`, `HasFewer`]
-- the custom section that was found, or that there is none before the end or the first fault
abbrev pub FindsSection : (name : List ℕ) (skips : ℕ) (stream : List ℕ) → Result (Option Custom) Error → Type 0
FindsSection name skips stream (Ok (Some section)) = ComesAfter name skips stream section
FindsSection name skips stream (Ok None) = HasFewer name skips stream
FindsSection name skips stream (Err e) = EndsBefore name skips stream e
