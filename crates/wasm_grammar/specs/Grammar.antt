-- The grammar of one place of a stream, and its verdict over complete input. Core specification, Binary format,
-- Modules.
use Rattle.std.specs.Prelude.{ℕ, zero, suc, ◌+◌, ◌-◌, ◌/◌, ◌%◌, ◌^◌, Bool, ◌&&◌, not, List, [], ◌∷◌, ◌++◌, length, take}
use Rattle.std.specs.Prelude.{drop, Option, Some, None, nat_lt, nat_le, nat_eq, ◌==◌, if◌then◌else◌}
use Rattle.std.specs.List.{list_all, list_any}
use Rattle.wasm_base.specs.FaultAt.{FaultAt, at_offset}
use Rattle.wasm_base.specs.Header.{magic, agree}
use Rattle.wasm_base.specs.Name.{of_four}
use Rattle.wasm_base.specs.Number.{Number, read, bad, short, number}
use Rattle.wasm_grammar.specs.Content.{Kind, items, code, kind_of, rank_of, Ending, fault, ended, when, wrong_content}
use Rattle.wasm_grammar.specs.Content.{count_of, Form, whole}
use Rattle.wasm_base.specs.declared.fault.Fault.TheVariants.{UnexpectedEof, BadMagic, UnknownVersion, MagicAtSection}
use Rattle.wasm_base.specs.declared.fault.Fault.TheVariants.{MalformedSectionId, SectionTooLarge, OutOfOrder}
use Rattle.wasm_base.specs.declared.fault.Fault.TheVariants.{FunctionCodeDiffer, FunctionWithoutCode}
use Rattle.wasm_base.specs.declared.fault.Fault.TheVariants.{CodeWithoutFunction, DataCountDiffer, DataCountWithoutData}
use Rattle.wasm_base.specs.declared.fault.Fault.TheVariants.{TrailingCode}
use Rattle.wasm_base.specs.declared.fault.NumberKind.TheVariants.{VarU32}
use Rattle.wasm_grammar.specs.declared.encoding.Encoding.{Encoding}
use Rattle.wasm_grammar.specs.declared.encoding.Encoding.TheVariants.{Module, Component}
use Rattle.wasm_grammar.specs.Ids.{data_id}

-- | a part of a stream with its bytes: a header, a whole section, the start of a code section, a body [`Tile`]
--   <Modules; Code Section>
-- the parts of a stream, its tiles: the header, a section other than a code section, the start of a code section up to
-- its count, and a body
pub data Shape : Type 0 where
  version : (num : ℕ) → Encoding → Shape
  section : Form → (id : ℕ) (content : List ℕ) → Shape
  -- the number of bodies, the width of that count in bytes, and the size of all bodies in bytes
  code_start : (count width size : ℕ) → Shape
  code_entry : (content : List ℕ) → Shape

-- one tile, with all its bytes
pub record Tile : Type 0 where
  pub shape : Shape
  pub bytes : List ℕ

-- what the bytes at a place are: a tile, or the end of the reading
pub data Verdict : Type 0 where
  tile : Tile → Verdict
  final : Ending → Verdict

-- | what may come at a place, field by field, with the offsets of its faults
-- What may come at a place, field by field. Offsets are those at which faults are reported.
pub data Grammar : Type 0 where
  -- the tile is complete
  accept : Shape → Grammar
  -- a fault
  reject : FaultAt → Grammar
  -- a fault, if there is one; otherwise the rest of the grammar
  check : Option FaultAt → Grammar → Grammar
  -- a LEB128 u32 at this offset; its value and its width in bytes determine the rest
  u32_field : (offset : ℕ) → (ℕ → ℕ → Grammar) → Grammar
  -- this many bytes, whose fault is at this offset if they are truncated; they determine the rest
  bytes : (count offset : ℕ) → (List ℕ → Grammar) → Grammar
  -- the start of a section: the stream may end here, in this way; the magic is a fault; the id determines the rest
  section_start : (offset : ℕ) → Ending → (ℕ → Grammar) → Grammar

-- The operators that `do` stands for: after a check comes the rest, and after a field the rest that its value
-- determines.
infixl 20 ◌>>◌
abbrev pub ◌>>◌ : (Grammar → Grammar) → Grammar → Grammar
first >> next = first next

infixl 20 ◌>>=◌
abbrev pub ◌>>=◌ : {A : Type 0} → ((A → Grammar) → Grammar) → (A → Grammar) → Grammar
first >>= next = first next

-- like `u32_field`, with the value and its length in bytes as a pair
abbrev pub sized_u32 : (offset : ℕ) → (ℕ × ℕ → Grammar) → Grammar
sized_u32 offset next = u32_field offset (λ value width. next (value, width))

-- a verdict over the bytes after this prefix of the tile, as one over all bytes of the tile
abbrev pub after : List ℕ → Verdict → Verdict
after prefix (tile t) = tile (record t { bytes = prefix ++ t.bytes })
after prefix (final e) = final e

-- the verdict for a number at this offset and what follows it
abbrev pub after_number : (offset : ℕ) (rest : List ℕ) → Number → (ℕ → ℕ → Verdict) → Verdict
after_number offset rest (read value used) next = after (take used rest) (next value used)
after_number offset rest (bad kind place) next = final (fault (at_offset kind (offset + place)))
after_number offset rest short next = final (fault (at_offset UnexpectedEof (offset + length rest)))

-- | what the rest of a stream is if that may come: a tile, or how the stream ends [`Verdict`]
-- the verdict of a grammar over the rest of a stream: the tile at its start, or the first fault, or the end
unfoldable pub verdict : Grammar → (rest : List ℕ) → Verdict
verdict (accept shape) rest = tile (record { shape = shape; bytes = [] })
verdict (reject e) rest = final (fault e)
verdict (check (Some e) next) rest = final (fault e)
verdict (check None next) rest = verdict next rest
verdict (u32_field offset next) rest =
    after_number offset rest (number VarU32 rest) (λ value used. verdict (next value used) (drop used rest))
verdict (bytes count offset next) rest =
    if nat_le count (length rest) then after (take count rest) (verdict (next (take count rest)) (drop count rest)) else
    final (fault (at_offset UnexpectedEof offset))
verdict (section_start offset e next) [] = final e
verdict (section_start offset e next) (id ∷ rest) =
    if agree (id ∷ rest) magic && nat_le 4 (length (id ∷ rest)) then
    final (fault (at_offset MagicAtSection offset)) else
    after (id ∷ []) (verdict (next id) rest)

-- what earlier tiles imply for a section
pub record SectionContext : Type 0 where
  pub encoding : Encoding
  -- whether the rank of each earlier section is below this one
  pub may_follow : ℕ → Bool
  -- the counts of the function, code, data and data count sections
  pub functions : List ℕ
  pub codes : List ℕ
  pub datas : List ℕ
  pub data_counts : List ℕ

-- the encoding of a header with this 16-bit version and this 16-bit layer. Core specification, Binary format, Modules
abbrev pub encoding_named : (num layer : ℕ) → Option Encoding
encoding_named num layer =
    if num == 1 && layer == 0 then Some Module else
    if num == 13 && layer == 1 then Some Component else None

abbrev pub header_of : (offset bits : ℕ) → Option Encoding → Grammar
header_of offset bits (Some encoding) = accept (version (bits % 65536) encoding)
header_of offset bits None = reject (record { fault = UnknownVersion; offset = offset + 4; number = Some bits })

-- a header whose magic is followed by these 32 bits: the version in the lower half, the layer in the upper half
abbrev pub version_of : (offset bits : ℕ) → Grammar
version_of offset bits = header_of offset bits (encoding_named (bits % 65536) (bits / 65536))

-- | a header: magic, a version and a kind; only two are known [`encoding_named`] <Modules>
-- a header at this offset
unfoldable pub header_grammar : (offset : ℕ) → Grammar
header_grammar offset = do
  prefix ← bytes 4 offset
  check (when (not (agree prefix magic)) (at_offset BadMagic offset))
  four ← bytes 4 (offset + 4)
  version_of offset (of_four four)

-- | how a stream ends where a section may start: a count above 0 needs its other section <Modules>
-- how a stream ends where a section may start: functions need a code section, and announced segments a data section
abbrev pub end_at_section : SectionContext → (offset : ℕ) → Ending
end_at_section context offset =
    if list_any (nat_lt 0) context.functions && nat_eq (length context.codes) 0 then
    fault (at_offset FunctionWithoutCode offset) else
    if list_any (nat_lt 0) context.data_counts && nat_eq (length context.datas) 0 then
    fault (at_offset DataCountWithoutData offset) else
    ended offset

-- the fault of the count of a code section at this offset, if it differs from the number of functions
abbrev pub wrong_count : SectionContext → (offset count : ℕ) → Option FaultAt
wrong_count context offset count =
    if not (list_all (nat_eq count) context.functions) then Some (at_offset FunctionCodeDiffer offset) else
    when (nat_lt 0 count && nat_eq (length context.functions) 0) (at_offset CodeWithoutFunction offset)

-- | the start of a code section: its count field fits and agrees with the functions [`wrong_count`] <Modules; Code
--   Section>
-- the start of a code section with this length, whose content begins at this offset
abbrev pub code_grammar : SectionContext → (offset length : ℕ) → Grammar
code_grammar context offset size = do
  count ← sized_u32 offset
  check (when (nat_lt size count.1) (at_offset UnexpectedEof offset))
  check (wrong_count context offset count.0)
  accept (code_start count.0 count.1 (size - count.1))

-- | a data section has as many segments as announced <Modules; Data Count Section>
-- the fault of a data section that ends at this offset, if its count differs from the announced one
abbrev pub wrong_data : SectionContext → Form → (id offset : ℕ) → List ℕ → Option FaultAt
wrong_data context items id offset content =
    when (id == data_id && not (list_all (nat_eq (count_of content)) context.data_counts))
    (at_offset DataCountDiffer offset)
wrong_data context other id offset content = None

-- the content of any other section, at this offset, of this length
abbrev pub whole_grammar : SectionContext → Form → (id offset length : ℕ) → Grammar
whole_grammar context form id offset size = do
  content ← bytes size offset
  check (wrong_content form offset content)
  check (wrong_data context form id (offset + size) content)
  accept (section form id content)

-- the content of a section, at this offset, of this length
abbrev pub content_grammar : SectionContext → Kind → (id offset length : ℕ) → Grammar
content_grammar context code id offset size = code_grammar context offset size
content_grammar context (whole form) id offset size = whole_grammar context form id offset size

-- the fault of a section whose end exceeds the largest offset, at its length field
abbrev pub too_large : (field length : ℕ) → FaultAt
too_large field size = record { fault = SectionTooLarge; offset = field; number = Some size }

-- the rest of a section of this kind and length after its length field. `field` and `offset` are those of the length
-- field and of the content.
abbrev pub after_length : SectionContext → Kind → (id field offset length : ℕ) → Grammar
after_length context kind id field offset size = do
  check (when (nat_lt (2 ^ 64 - 1) (offset + size)) (too_large field size))
  check (when (nat_lt 0 (rank_of kind id) && not (context.may_follow (rank_of kind id))) (at_offset OutOfOrder offset))
  content_grammar context kind id offset size

-- the rest of a section at this offset after its id
abbrev pub after_id : SectionContext → (offset id : ℕ) → Grammar
after_id context offset id = do
  check (when (nat_le 128 id) (at_offset MalformedSectionId offset))
  size ← sized_u32 (offset + 1)
  after_length context (kind_of context.encoding id) id (offset + 1) (offset + 1 + size.1) size.0

-- | a section: no magic here, an id below 128, its length, an end within the offsets, its rank, its content
--   [`after_id`, `after_length`, `content_grammar`] <Modules, Sections>
-- a section at this offset. Core specification, Binary format, Modules, Sections
unfoldable pub section_grammar : SectionContext → (offset : ℕ) → Grammar
section_grammar context offset = section_start offset (end_at_section context offset) (after_id context offset)

-- the rest of a body after its size, in a code section with `code_bytes` remaining bytes. The size alone determines
-- whether the body overruns the section.
abbrev pub body_of : (offset code_bytes size width : ℕ) → Grammar
body_of offset code_bytes size width = do
  check (when (nat_lt code_bytes (width + size)) (at_offset UnexpectedEof offset))
  content ← bytes size (offset + width)
  accept (code_entry content)

-- | a body: a size, which alone says whether the body overruns its section, and as many bytes; no byte after the last
--   body [`body_of`] <Code Section>
-- what may come in a code section with these numbers of remaining bodies and bytes
unfoldable pub body_grammar : (bodies code_bytes offset : ℕ) → Grammar
body_grammar zero code_bytes offset = reject (at_offset TrailingCode offset)
body_grammar (suc bodies) code_bytes offset = do
  size ← sized_u32 offset
  body_of offset code_bytes size.0 size.1
