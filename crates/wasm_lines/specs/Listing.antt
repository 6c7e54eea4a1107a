-- The listing of a reading: a line for each event.
use Rattle.std.specs.Prelude.{ℕ, ◌+◌, List, [], ◌++◌, length, codes, decimal, Option, Some, None}
use Rattle.wasm_base.specs.Message.{message_of}
use Rattle.wasm_base.specs.Window.{Window}
use Rattle.wasm_grammar.specs.Content.{ended, fault}
use Rattle.wasm_grammar.specs.Reading.{Report, version, counted, start_section, data_count_section, code_start}
use Rattle.wasm_grammar.specs.Reading.{code_entry, custom_section, unknown_section, stream_end}
use Rattle.wasm_grammar.specs.declared.encoding.Encoding.{Encoding}
use Rattle.wasm_grammar.specs.declared.encoding.Encoding.TheVariants.{Module, Component}
use Rattle.wasm_frames.specs.SkipNext.{Head, Skip, custom, items, unknown, body}
use Rattle.wasm_io.specs.Offsets.{offset_text}
use Rattle.wasm_io.specs.declared.digits.Base.{Base}
use Rattle.wasm_io.specs.declared.digits.Base.TheVariants.{Decimal}

-- a blank and a number
abbrev pub field : ℕ → List ℕ
field n = codes " " ++ decimal n

-- a blank and an offset
abbrev pub offset_field : Base → ℕ → List ℕ
offset_field base offset = codes " " ++ offset_text base offset

-- the offsets of a window
abbrev pub window_fields : Base → Window → List ℕ
window_fields base window = offset_field base window.start ++ offset_field base (window.start + length window.bytes)

abbrev pub encoding_name : Encoding → List ℕ
encoding_name Module = codes "module"
encoding_name Component = codes "component"

-- the number of a fault, where it has one
abbrev pub fault_number : Option ℕ → List ℕ
fault_number None = []
fault_number (Some n) = codes ": " ++ decimal n

-- | the text of each event, and its line; the text of a part that was skipped; the last digits of a number
--   [`line_of`; `skip_text`; `Digits.last_digits`]
-- the text of what is reported, with offsets in this base
unfoldable pub report_text : Base → Report → List ℕ
report_text base (version num encoding from to) = codes "version"
    ++ (offset_field base from ++ (offset_field base to ++ (field num ++ (codes " " ++ encoding_name encoding))))
report_text base (counted id count window) = codes "section"
    ++ (field id ++ (window_fields base window ++ field count))
report_text base (start_section func from to) = codes "start"
    ++ (offset_field base from ++ (offset_field base to ++ field func))
report_text base (data_count_section count from to) = codes "datacount"
    ++ (offset_field base from ++ (offset_field base to ++ field count))
report_text base (code_start count from to size) = codes "code"
    ++ (offset_field base from ++ (offset_field base to ++ (field count ++ field size)))
report_text base (code_entry window) = codes "body" ++ window_fields base window
report_text base (custom_section name data_offset window) = codes "custom"
    ++ (window_fields base window ++ offset_field base data_offset)
report_text base (unknown_section id contents from to) = codes "unknown"
    ++ (field id ++ (offset_field base from ++ offset_field base to))
report_text base (stream_end (fault f)) = codes "fault"
    ++ (offset_field base f.offset ++ (codes " " ++ (message_of f.fault ++ fault_number f.number)))
report_text base (stream_end (ended offset)) = codes "end" ++ offset_field base offset

-- the text of a part with these first fields, whose offsets are written so
abbrev pub head_text : Base → (offsets : List ℕ) → Head → List ℕ
head_text base offsets (custom text data_offset) = codes "custom" ++ (offsets ++ offset_field base data_offset)
head_text base offsets (items id count) = codes "section" ++ (field id ++ (offsets ++ field count))
head_text base offsets (unknown id) = codes "unknown" ++ (field id ++ offsets)
head_text base offsets body = codes "body" ++ offsets

-- the text of a part by its first fields, with offsets in this base: that of what is reported of it
abbrev pub skip_text : Base → Skip → List ℕ
skip_text base s = head_text base (offset_field base s.from ++ offset_field base s.to) s.head

-- the line of what is reported: its text, and a line feed
abbrev pub line_in : Base → Report → List ℕ
line_in base report = report_text base report ++ codes "\n"

-- its line in a listing, with decimal offsets
abbrev pub line_of : Report → List ℕ
line_of report = line_in Decimal report
