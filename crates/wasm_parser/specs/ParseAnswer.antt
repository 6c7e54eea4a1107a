-- What one call of `parse` returns.
use Rattle.std.specs.Prelude.{◌≡◌, ℕ, Bool, List, Option, Some, None, IfSome, Result, Ok, Err}
use Rattle.wasm_base.specs.FaultAt.{fault_at}
use Rattle.wasm_base.specs.Number.{unsigned_at}
use Rattle.wasm_base.specs.Section.{Section}
use Rattle.wasm_base.specs.Window.{place, range_of}
use Rattle.wasm_base.specs.declared.error.Error.{Error}
use Rattle.wasm_base.specs.declared.fault.NumberKind.TheVariants.{VarU32}
use Rattle.wasm_frames.specs.Answer.{Answer, GivesAnswer, asks, reports, refuses}
use Rattle.wasm_frames.specs.Frame.{unread}
use Rattle.wasm_frames.specs.ParserState.{ParserState}
use Rattle.wasm_grammar.specs.Content.{ended}
use Rattle.wasm_grammar.specs.Ids.{data_id, element_id, export_id, function_id, global_id, import_id, memory_id}
use Rattle.wasm_grammar.specs.Ids.{table_id, tag_id, type_id}
use Rattle.wasm_grammar.specs.Reading.{Report, version, counted, start_section, data_count_section, code_start}
use Rattle.wasm_grammar.specs.Reading.{code_entry, custom_section, unknown_section, stream_end}
use Rattle.wasm_items.specs.Windows.{body_window}
use Rattle.wasm_parser.specs.declared.payload.CountedSection.{CountedSection}
use Rattle.wasm_parser.specs.declared.payload.Payload.{Payload}
use Rattle.wasm_parser.specs.declared.payload.Payload.TheVariants.{Version, TypeSection, ImportSection, FunctionSection}
use Rattle.wasm_parser.specs.declared.payload.Payload.TheVariants.{TableSection, MemorySection, TagSection}
use Rattle.wasm_parser.specs.declared.payload.Payload.TheVariants.{GlobalSection, ExportSection, StartSection}
use Rattle.wasm_parser.specs.declared.payload.Payload.TheVariants.{ElementSection, DataCountSection, DataSection}
use Rattle.wasm_parser.specs.declared.payload.Payload.TheVariants.{CodeSectionStart, CodeSectionEntry, CustomSection}
use Rattle.wasm_parser.specs.declared.payload.Payload.TheVariants.{UnknownSection, End}
use Rattle.wasm_parser.specs.declared.payload.Chunk.{Chunk}
use Rattle.wasm_parser.specs.declared.payload.Chunk.TheVariants.{NeedMoreData, Parsed}

-- a section with this id that begins with a count
abbrev pub counted_by : ℕ → Section → Report
counted_by id s = counted id s.count (unread s.reader)

-- | what a payload reports, and that its items begin after its count [`ItemsBegin`, `IsPayload`]
-- the report of a payload
abbrev pub report_of : Payload → Report
report_of (Version encoding num range) = version num encoding range.start range.end
report_of (TypeSection s) = counted_by type_id s
report_of (ImportSection s) = counted_by import_id s
report_of (FunctionSection s) = counted_by function_id s
report_of (TableSection s) = counted_by table_id s
report_of (MemorySection s) = counted_by memory_id s
report_of (TagSection s) = counted_by tag_id s
report_of (GlobalSection s) = counted_by global_id s
report_of (ExportSection s) = counted_by export_id s
report_of (StartSection func range) = start_section func range.start range.end
report_of (ElementSection s) = counted_by element_id s
report_of (DataCountSection count range) = data_count_section count range.start range.end
report_of (DataSection s) = counted_by data_id s
report_of (CodeSectionStart count size unchecked_range) =
    code_start count unchecked_range.start unchecked_range.end size
report_of (CodeSectionEntry body) = code_entry (body_window body)
report_of (CustomSection s) = custom_section s.name (place s.reader).offset (unread s.reader)
report_of (UnknownSection id contents range) = unknown_section id contents.now range.start range.end
report_of (End at) = stream_end (ended at)

-- The reader of the section is after its count. Reports have no readers, so this is stated separately.
abbrev pub BeginsAfterCount : Section → Type 0
BeginsAfterCount s = unsigned_at VarU32 (place (unread s.reader)) ≡ Ok (s.count, place s.reader)

-- the id and the section of a payload that begins with a count of items
abbrev pub items_in : Payload → Option (ℕ × Section)
items_in (TypeSection s) = Some (type_id, s)
items_in (ImportSection s) = Some (import_id, s)
items_in (FunctionSection s) = Some (function_id, s)
items_in (TableSection s) = Some (table_id, s)
items_in (MemorySection s) = Some (memory_id, s)
items_in (TagSection s) = Some (tag_id, s)
items_in (GlobalSection s) = Some (global_id, s)
items_in (ExportSection s) = Some (export_id, s)
items_in (ElementSection s) = Some (element_id, s)
items_in (DataSection s) = Some (data_id, s)
items_in other = None

-- a section that begins with a count of items: its id, the count, and the offsets of its content. Core specification,
-- Binary format, Modules, Sections.
abbrev pub counted_in : Report → Option CountedSection
counted_in (counted id count window) = Some (record { id = id; count = count; range = range_of window })
counted_in other = None

-- The reader of a counted section is at its first item.
abbrev pub ItemsBegin : Payload → Type 0
ItemsBegin payload = IfSome (items_in payload) (λ x. BeginsAfterCount x.1)

-- The payload has this report, and its reader is at the first item.
abbrev pub IsPayload : Report → Payload → Type 0
IsPayload report payload = (report_of payload ≡ report) × ItemsBegin payload

-- the content of a result
abbrev pub said : Result Chunk Error → Answer
said (Ok (NeedMoreData hint)) = asks hint
said (Ok (Parsed consumed payload)) = reports (report_of payload) consumed
said (Err e) = refuses (fault_at e)

-- If the result is a counted section, its reader is at the first item.
abbrev pub AnswerBegins : Result Chunk Error → Type 0
AnswerBegins (Ok (NeedMoreData hint)) = Unit {0}
AnswerBegins (Ok (Parsed consumed payload)) = ItemsBegin payload
AnswerBegins (Err e) = Unit {0}

-- | what `parse` returns: what the parser of frames does, with readers of items [`said`; `wasm_frames`:
--   `Answer.GivesAnswer`, `answer_to`, `answer_by`, `answer_in_time`]
-- The result of a call, and the state after it, by the state before it.
pub record ParseAnswer (old : ParserState) (eof : Bool) (rest : List ℕ) (result : Result Chunk Error)
    (new : ParserState) : Type 0 where
  pub gives : GivesAnswer old eof rest (said result) new
  pub items : AnswerBegins result
