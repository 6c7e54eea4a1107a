-- The kinds of sections by their ids, and the first fields of their contents. Core specification, Binary format,
-- Modules, Sections.
use Rattle.std.specs.Prelude.{ℕ, ◌+◌, Bool, true, false, List, [], ◌∷◌, length, slice_index, slice_index_or, Option}
use Rattle.std.specs.Prelude.{Some, None, nat_lt}
use Rattle.wasm_base.specs.FaultAt.{FaultAt, at_offset}
use Rattle.wasm_base.specs.Name.{Name, named, refused, name_limit, name}
use Rattle.wasm_base.specs.Number.{Number, read, bad, short, number}
use Rattle.wasm_base.specs.declared.fault.Fault.{Fault}
use Rattle.wasm_base.specs.declared.fault.Fault.TheVariants.{UnexpectedEof, StartContent, DataCountContent}
use Rattle.wasm_base.specs.declared.fault.NumberKind.TheVariants.{VarU32}
use Rattle.wasm_grammar.specs.declared.encoding.Encoding.{Encoding}
use Rattle.wasm_grammar.specs.declared.encoding.Encoding.TheVariants.{Module, Component}
use Rattle.wasm_grammar.specs.Ids.{code_id, place_of}

-- the forms of the content of a section that is one part of the stream
pub data Form : Type 0 where
  -- a name, followed by any bytes
  custom : Form
  -- a count, followed by as many items
  items : Form
  -- one index
  index : Form
  -- one count
  data_count : Form
  -- any bytes
  unknown : Form

-- | what a section is: one that is read whole (name and bytes, counted items, one index, one count, or unknown), or a
--   code section [`Form`] <Modules, Sections>
-- A section is one part of the stream. The parts of a code section are its start, up to the count, and each body.
pub data Kind : Type 0 where
  whole : Form → Kind
  code : Kind

-- the kinds of the sections of a module with ids 0 to 13
abbrev pub kinds : List Kind
kinds =
    whole custom ∷ whole items ∷ whole items ∷ whole items ∷ whole items ∷ whole items ∷ whole items ∷ whole items ∷
    whole index ∷ whole items ∷ code ∷ whole items ∷ whole data_count ∷ whole items ∷ []

-- | the kind of an id in a module or component <Modules, Sections>
-- the kind of the section with this id. In a module ids 0 to 13 are known, in a component only 0.
abbrev pub kind_of : Encoding → ℕ → Kind
kind_of Module id = slice_index_or kinds id (whole unknown)
kind_of Component id = slice_index_or (whole custom ∷ []) id (whole unknown)

-- | the rank of a section, by its kind <Modules>
-- the rank of a section of this kind, or 0 if it may come anywhere
abbrev pub rank_of : Kind → ℕ → ℕ
rank_of (whole custom) id = 0
rank_of (whole unknown) id = 0
rank_of (whole items) id = place_of id
rank_of (whole index) id = place_of id
rank_of (whole data_count) id = place_of id
rank_of code id = place_of code_id

-- how a reading ends: at a fault, or at the end of the stream
pub data Ending : Type 0 where
  fault : FaultAt → Ending
  ended : (offset : ℕ) → Ending

-- this fault if the test holds, or none
abbrev pub when : Bool → FaultAt → Option FaultAt
when true e = Some e
when false e = None

-- the fault of a number at this offset, the first of these bytes, if it has one
abbrev pub wrong_number : (offset : ℕ) (bytes : List ℕ) → Number → Option FaultAt
wrong_number offset bytes (read value used) = None
wrong_number offset bytes (bad f place) = Some (at_offset f (offset + place))
wrong_number offset bytes short = Some (at_offset UnexpectedEof (offset + length bytes))

-- like `wrong_number`, for content that is a single number: bytes after it are this fault
abbrev pub wrong_single : Fault → (offset : ℕ) (bytes : List ℕ) → Number → Option FaultAt
wrong_single trailing offset bytes (read value used) = when (nat_lt used (length bytes))
    (at_offset trailing (offset + used))
wrong_single trailing offset bytes (bad f place) = Some (at_offset f (offset + place))
wrong_single trailing offset bytes short = Some (at_offset UnexpectedEof (offset + length bytes))

-- the fault of a name at this offset, if it has one
abbrev pub wrong_name : (offset : ℕ) → Name → Option FaultAt
wrong_name offset (named text used) = None
wrong_name offset (refused f place) = Some (at_offset f (offset + place))

-- | what is wrong with content: its name, its count, or bytes after its one number <Modules, each section>
-- the fault of the first fields of a section's content at this offset, if they have one
unfoldable pub wrong_content : Form → (offset : ℕ) (content : List ℕ) → Option FaultAt
wrong_content custom offset content = wrong_name offset (name (Some name_limit) content)
wrong_content items offset content = wrong_number offset content (number VarU32 content)
wrong_content index offset content = wrong_single StartContent offset content (number VarU32 content)
wrong_content data_count offset content = wrong_single DataCountContent offset content (number VarU32 content)
wrong_content unknown offset content = None

-- the value of a number, or 0
abbrev pub value_of : Number → ℕ
value_of (read value used) = value
value_of (bad f place) = 0
value_of short = 0

-- | the count or index that content begins with <Modules, each section>
-- the count or index at the start of content
abbrev pub count_of : List ℕ → ℕ
count_of content = value_of (number VarU32 content)
