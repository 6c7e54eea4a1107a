-- The positions of events in their stream.
use Rattle.std.specs.Prelude.{◌≡◌, ℕ, ◌+◌, ◌-◌, ◌≤◌, List, [], ◌∷◌, length, take, drop, flat_map}
use Rattle.wasm_base.specs.Window.{Window}
use Rattle.wasm_grammar.specs.Content.{ended, fault}
use Rattle.wasm_grammar.specs.Reading.{Report, version, counted, start_section, data_count_section, code_start}
use Rattle.wasm_grammar.specs.Reading.{code_entry, custom_section, unknown_section, stream_end, Event}

-- the bytes that events consume, joined
abbrev pub consumed_by : List Event → List ℕ
consumed_by events = flat_map (λ e. e.consumed) events

-- The window is a part of a stream that starts at this offset, at its own place and with these features.
pub record IsPart (stream : List ℕ) (start features : ℕ) (window : Window) : Type 0 where
  pub has : window.features ≡ features
  pub after : start ≤ window.start
  pub bytes : take (length window.bytes) (drop (window.start - start) stream) ≡ window.bytes
  pub unread : window.position ≡ 0

-- The range lies between these offsets.
pub record LiesIn (from to low high : ℕ) : Type 0 where
  pub above : low ≤ from
  pub order : from ≤ to
  pub below : to ≤ high

-- What is reported of the bytes between two offsets lies there, and its windows are those of the stream. The range of a
-- code section goes on to its end, after the head.
abbrev pub LiesBetween : (stream : List ℕ) (start features low high : ℕ) → Report → Type 0
LiesBetween stream start features low high (version num encoding from to) = (from ≡ low) × (to ≡ high)
LiesBetween stream start features low high (counted id count window) = IsPart stream start features window
    × LiesIn window.start (window.start + length window.bytes) low high × (window.start + length window.bytes ≡ high)
LiesBetween stream start features low high (start_section func from to) = LiesIn from to low high × (to ≡ high)
LiesBetween stream start features low high (data_count_section count from to) = LiesIn from to low high × (to ≡ high)
LiesBetween stream start features low high (code_start count from to size) =
    LiesIn from high low high × (to ≡ high + size)
LiesBetween stream start features low high (code_entry window) = IsPart stream start features window
    × LiesIn window.start (window.start + length window.bytes) low high × (window.start + length window.bytes ≡ high)
LiesBetween stream start features low high (custom_section name data_offset window) =
    IsPart stream start features window × LiesIn window.start (window.start + length window.bytes) low high
    × (window.start + length window.bytes ≡ high) × LiesIn data_offset high window.start high
LiesBetween stream start features low high (unknown_section id contents from to) = LiesIn from to low high × (to ≡ high)
    × (take (length contents) (drop (from - start) stream) ≡ contents) × (from + length contents ≡ to)
LiesBetween stream start features low high (stream_end (fault f)) = Unit {0}
LiesBetween stream start features low high (stream_end (ended offset)) = (offset ≡ low) × (offset ≡ high)

-- | something holds for each event, at the offset where the ones before it end
abbrev pub AtOffsets : (ℕ → Event → Type 0) → (at : ℕ) → List Event → Type 0
AtOffsets P at [] = Unit {0}
AtOffsets P at (e ∷ events) = P at e × AtOffsets P (at + length e.consumed) events

-- | events end to end, their windows parts of the stream with the enabled features [`IsPart`]
-- Each event is at the bytes that it consumed, and begins where the one before ended; windows have these features.
abbrev pub EndToEnd : (stream : List ℕ) (start features at : ℕ) → List Event → Type 0
EndToEnd stream start features at events = AtOffsets (λ low e.
    LiesBetween stream start features low (low + length e.consumed) e.report) at events
