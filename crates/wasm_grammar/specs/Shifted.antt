-- Reports with every offset moved by a constant.
use Rattle.std.specs.Prelude.{◌≡◌, ℕ, ◌+◌, List, map}
use Rattle.wasm_base.specs.FaultAt.{FaultAt}
use Rattle.wasm_base.specs.Window.{Window}
use Rattle.wasm_base.specs.declared.fault.Fault.TheVariants.{SectionTooLarge}
use Rattle.wasm_grammar.specs.Content.{Ending, fault, ended}
use Rattle.wasm_grammar.specs.Reading.{Report, version, counted, start_section, data_count_section, code_start}
use Rattle.wasm_grammar.specs.Reading.{code_entry, custom_section, unknown_section, stream_end, Event}

abbrev pub shifted_fault : (by : ℕ) → FaultAt → FaultAt
shifted_fault by f = record f { offset = f.offset + by }

abbrev pub shifted_ending : (by : ℕ) → Ending → Ending
shifted_ending by (fault f) = fault (shifted_fault by f)
shifted_ending by (ended offset) = ended (offset + by)

abbrev pub shifted_window : (by : ℕ) → Window → Window
shifted_window by w = record w { start = w.start + by }

abbrev pub shifted_report : (by : ℕ) → Report → Report
shifted_report by (version num encoding from to) = version num encoding (from + by) (to + by)
shifted_report by (counted id count window) = counted id count (shifted_window by window)
shifted_report by (start_section func from to) = start_section func (from + by) (to + by)
shifted_report by (data_count_section count from to) = data_count_section count (from + by) (to + by)
shifted_report by (code_start count from to size) = code_start count (from + by) (to + by) size
shifted_report by (code_entry window) = code_entry (shifted_window by window)
shifted_report by (custom_section name data_offset window) =
    custom_section name (data_offset + by) (shifted_window by window)
shifted_report by (unknown_section id contents from to) = unknown_section id contents (from + by) (to + by)
shifted_report by (stream_end (fault f)) = stream_end (fault (shifted_fault by f))
shifted_report by (stream_end (ended offset)) = stream_end (ended (offset + by))

abbrev pub shifted_event : (by : ℕ) → Event → Event
shifted_event by e = record e { report = shifted_report by e.report }

-- | events with every offset moved
abbrev pub shifted_events : (by : ℕ) → List Event → List Event
shifted_events by events = map (shifted_event by) events

-- The stream ends at a section whose end exceeds the largest offset. If the reading at the later start offset does not
-- end so, neither does the one at the earlier offset.
abbrev pub PassesTheTop : Ending → Type 0
PassesTheTop (fault f) = f.fault ≡ SectionTooLarge
PassesTheTop (ended offset) = ⊥
