-- A frame is its report.
use Rattle.std.specs.Prelude.{◌≡◌, ℕ, ◌+◌, List, [], length, Option, IfSome, Ok}
use Rattle.std.specs.Str.{IsUtf8}
use Rattle.std.specs.declared.ops.Range.{Range}
use Rattle.wasm_base.specs.Features.{all_features}
use Rattle.wasm_base.specs.Number.{unsigned_at}
use Rattle.wasm_base.specs.Window.{Window, Place, place, range_of, window_over}
use Rattle.wasm_base.specs.declared.fault.NumberKind.TheVariants.{VarU32}
use Rattle.wasm_frames.specs.declared.kind.FrameKind.{FrameKind}
use Rattle.wasm_frames.specs.declared.kind.FrameKind.TheVariants as kinds
use Rattle.wasm_grammar.specs.Content.{ended, fault, items, kind_of, whole}
use Rattle.wasm_grammar.specs.Ids.{code_id, data_count_id, start_id}
use Rattle.wasm_grammar.specs.Reading as report
use Rattle.wasm_grammar.specs.Reading.{Report}
use Rattle.wasm_grammar.specs.declared.encoding.Encoding.{Encoding}
use Rattle.wasm_grammar.specs.declared.encoding.Encoding.TheVariants.{Module}

-- the window that a reader reads, from its first byte
abbrev pub unread : Window → Window
unread w = record w { position = 0 }

-- that of no bytes
abbrev pub no_window : Window
no_window = window_over all_features 0 []

-- A name is UTF-8, and its text, if it is kept too, has its bytes.
pub record IsName (bytes : List ℕ) (text : Option (List ℕ)) : Type 0 where
  pub utf8 : IsUtf8 bytes
  pub same : IfSome text (λ kept. kept ≡ bytes)

-- the fields of a frame
pub record Fields : Type 0 where
  pub kind : FrameKind
  pub start : ℕ
  pub end : ℕ
  pub reader : Window
  pub name : List ℕ
  pub id : ℕ
  pub encoding : Encoding
  pub version : ℕ
  pub count : ℕ
  pub size : ℕ

-- the report of a section whose content is a window that begins with this count, or this name, or that is unknown
abbrev pub counted_frame : (id count : ℕ) → Window → Report
counted_frame id count reader = report.counted id count (unread reader)

abbrev pub custom_frame : (name : List ℕ) → Window → Report
custom_frame name reader = report.custom_section name (place reader).offset (unread reader)

abbrev pub unknown_frame : (id : ℕ) → Window → Report
unknown_frame id reader =
    report.unknown_section id (place reader).rest reader.start (reader.start + length reader.bytes)

-- the report of a frame of this kind with these fields
abbrev pub report_as : FrameKind → Fields → Report
report_as kinds.Header f = report.version f.version f.encoding f.start f.end
report_as kinds.Items f = counted_frame f.id f.count f.reader
report_as kinds.Start f = report.start_section f.count f.start f.end
report_as kinds.DataCount f = report.data_count_section f.count f.start f.end
report_as kinds.CodeStart f = report.code_start f.count f.start f.end f.size
report_as kinds.Body f = report.code_entry f.reader
report_as kinds.Custom f = custom_frame f.name f.reader
report_as kinds.Unknown f = unknown_frame f.id f.reader
report_as kinds.End f = report.stream_end (ended f.start)

-- | a frame is its report: kind, id, count and the other fields, and the reader after the first fields of the content
--   [`report_kind`, `report_id`, `report_encoding`, `report_version`, `report_count`, `report_size`, `report_name`,
--   `report_range`, `IsReaderOf`] <Modules>
-- the report of a frame
abbrev pub report_of : Fields → Report
report_of f = report_as f.kind f

-- what a frame is, by its report
abbrev pub report_kind : Report → FrameKind
report_kind (report.version num encoding from to) = kinds.Header
report_kind (report.counted id count window) = kinds.Items
report_kind (report.start_section func from to) = kinds.Start
report_kind (report.data_count_section count from to) = kinds.DataCount
report_kind (report.code_start count from to size) = kinds.CodeStart
report_kind (report.code_entry window) = kinds.Body
report_kind (report.custom_section name data_offset window) = kinds.Custom
report_kind (report.unknown_section id contents from to) = kinds.Unknown
report_kind (report.stream_end end) = kinds.End

-- the id of the section, or 0
abbrev pub report_id : Report → ℕ
report_id (report.counted id count window) = id
report_id (report.start_section func from to) = start_id
report_id (report.data_count_section count from to) = data_count_id
report_id (report.code_start count from to size) = code_id
report_id (report.code_entry window) = code_id
report_id (report.unknown_section id contents from to) = id
report_id other = 0

-- the encoding that a header announces, or that of a module
abbrev pub report_encoding : Report → Encoding
report_encoding (report.version num encoding from to) = encoding
report_encoding other = Module

-- the version of a header, or 0
abbrev pub report_version : Report → ℕ
report_version (report.version num encoding from to) = num
report_version other = 0

-- the announced number of items, bodies or data segments, the index of the start function, or 0
abbrev pub report_count : Report → ℕ
report_count (report.counted id count window) = count
report_count (report.start_section func from to) = func
report_count (report.data_count_section count from to) = count
report_count (report.code_start count from to size) = count
report_count other = 0

-- the number of bytes of a code section after its count, or 0
abbrev pub report_size : Report → ℕ
report_size (report.code_start count from to size) = size
report_size other = 0

-- the name of a custom section, or none
abbrev pub report_name : Report → List ℕ
report_name (report.custom_section name data_offset window) = name
report_name other = []

-- the offsets of the content, of the header, or of the end
abbrev pub report_range : Report → Range ℕ
report_range (report.version num encoding from to) = record { start = from; end = to }
report_range (report.counted id count window) = range_of window
report_range (report.start_section func from to) = record { start = from; end = to }
report_range (report.data_count_section count from to) = record { start = from; end = to }
report_range (report.code_start count from to size) = record { start = from; end = to }
report_range (report.code_entry window) = range_of window
report_range (report.custom_section name data_offset window) = range_of window
report_range (report.unknown_section id contents from to) = record { start = from; end = to }
report_range (report.stream_end (ended offset)) = record { start = offset; end = offset }
report_range (report.stream_end (fault f)) = record { start = f.offset; end = f.offset }

-- The reader is after this count of a window, and a section with this id begins with a count.
pub record HoldsCount (id count : ℕ) (reader : Window) : Type 0 where
  pub known : kind_of Module id ≡ whole items
  pub reads : unsigned_at VarU32 (place (unread reader)) ≡ Ok (count, place reader)

-- The reader is that of the reported content, after its first fields; of a part without content, one of no bytes.
abbrev pub IsReaderOf : Report → Window → Type 0
IsReaderOf (report.counted id count window) reader = HoldsCount id count reader × (window ≡ unread reader)
IsReaderOf (report.code_entry window) reader = window ≡ reader
IsReaderOf (report.custom_section name data_offset window) reader = custom_frame name reader
    ≡ report.custom_section name data_offset window
IsReaderOf (report.unknown_section id contents from to) reader =
    (reader.bytes ≡ contents) × (reader.start ≡ from) × (reader.position ≡ 0)
IsReaderOf other reader = reader ≡ no_window

-- This is the offset of the data of a custom section, or of the first item of a section of items.
abbrev pub StartsData : Report → (offset : ℕ) → Type 0
StartsData (report.custom_section name data_offset window) offset = offset ≡ data_offset
StartsData (report.counted id count window) offset =
    (first : Place) × (unsigned_at VarU32 (place window) ≡ Ok (count, first)) × (offset ≡ first.offset)
StartsData other offset = Unit {0}

-- A part of a stream, or its end, is reported, and no fault.
abbrev pub IsPartOrEnd : Report → Type 0
IsPartOrEnd (report.stream_end (fault f)) = ⊥
IsPartOrEnd other = Unit {0}

-- The fields are those of the report that they are.
pub record HasReportFields (f : Fields) : Type 0 where
  pub kind : f.kind ≡ report_kind (report_of f)
  pub part : IsPartOrEnd (report_of f)
  pub range : record { start = f.start; end = f.end } ≡ report_range (report_of f)
  pub reads : IsReaderOf (report_of f) f.reader
  pub name : f.name ≡ report_name (report_of f)
  pub id : f.id ≡ report_id (report_of f)
  pub encoding : f.encoding ≡ report_encoding (report_of f)
  pub version : f.version ≡ report_version (report_of f)
  pub count : f.count ≡ report_count (report_of f)
  pub size : f.size ≡ report_size (report_of f)
