-- What a module needs from its outside and provides to it, as a loader wants it.
use Rattle.std.specs.Prelude.{◌≡◌, ℕ, ◌+◌, ◌-◌, ◌^◌, min, List, [], ◌∷◌, ◌++◌, length, map, nat_lt}
use Rattle.std.specs.Prelude.{nat_eq, Result, Ok, Err, if◌then◌else◌}
use Rattle.wasm_base.specs.FaultAt.{FaultAt, fault_at}
use Rattle.wasm_base.specs.Owned.{out_of_memory}
use Rattle.wasm_base.specs.Window.{Place, place}
use Rattle.wasm_items.specs.Exports.{ExportParts, export_parts, export_at}
use Rattle.wasm_items.specs.Imports.{ImportParts, import_parts}
use Rattle.wasm_items.specs.declared.exports.ExternalKind.{ExternalKind}
use Rattle.wasm_items.specs.declared.exports.ExternalKind.TheVariants as kinds
use Rattle.wasm_items.specs.declared.imports.TypeRef.{TypeRef}
use Rattle.wasm_items.specs.declared.imports.TypeRef.TheVariants as types
use Rattle.wasm_grammar.specs.Content.{fault}
use Rattle.wasm_grammar.specs.Reading.{Report, counted, stream_end}
use Rattle.wasm_examples.specs.Folding.{ComesTo, ReturnsFold, after_each, items_at}
use Rattle.wasm_examples.specs.Imported.{imports_in, items_place}
use Rattle.wasm_examples.specs.declared.outside.Misfit.{Misfit}
use Rattle.wasm_examples.specs.declared.outside.Misfit.TheVariants as misfits
use Rattle.wasm_examples.specs.declared.outside.Outside.{Outside}
use Rattle.wasm_examples.specs.declared.outside.Spans.{Spans}
use Rattle.wasm_grammar.specs.Ids.{export_id, function_id, global_id, import_id, memory_id, table_id, tag_id}

-- ---- index spaces

-- this many more; a count stops at the greatest number of 64 bits, above every index
abbrev pub saturating_more : ℕ → ℕ → ℕ
saturating_more count n = min (count + n) (2 ^ 64 - 1)

-- how many there are of a kind
abbrev pub span_of : Spans → ExternalKind → ℕ
span_of s kinds.Func = s.functions
span_of s kinds.Table = s.tables
span_of s kinds.Memory = s.memories
span_of s kinds.Global = s.globals
span_of s kinds.Tag = s.tags
span_of s kinds.FuncExact = s.functions

-- with this many more of a kind
abbrev pub with_span : Spans → ExternalKind → ℕ → Spans
with_span s kinds.Func n = record s { functions = saturating_more s.functions n }
with_span s kinds.Table n = record s { tables = saturating_more s.tables n }
with_span s kinds.Memory n = record s { memories = saturating_more s.memories n }
with_span s kinds.Global n = record s { globals = saturating_more s.globals n }
with_span s kinds.Tag n = record s { tags = saturating_more s.tags n }
with_span s kinds.FuncExact n = record s { functions = saturating_more s.functions n }

-- the kind of an import
abbrev pub kind_of_type : TypeRef → ExternalKind
kind_of_type (types.Func index) = kinds.Func
kind_of_type (types.Table ty) = kinds.Table
kind_of_type (types.Memory ty) = kinds.Memory
kind_of_type (types.Global ty) = kinds.Global
kind_of_type (types.Tag ty) = kinds.Tag
kind_of_type (types.FuncExact index) = kinds.FuncExact

-- ---- what a module has so far

pub record OutsideParts : Type 0 where
  pub spans : Spans
  pub imports : List ImportParts
  pub exports : List ExportParts

abbrev pub outside_parts : Outside → OutsideParts
outside_parts o =
    record { spans = o.spans; imports = map import_parts o.imports.items; exports = map export_parts o.exports.items }

-- nothing
abbrev pub no_parts : OutsideParts
no_parts = record {
  spans = record { functions = 0; tables = 0; memories = 0; globals = 0; tags = 0 };
  imports = [];
  exports = [];
}

-- why a module has no outside: a fault, or the export of this place, which names what is not there
pub data Refused : Type 0 where
  at_fault : FaultAt → Refused
  no_such : ℕ → Refused

-- ---- one part more

abbrev pub with_outside_import : OutsideParts → ImportParts → OutsideParts
with_outside_import o i = record o { spans = with_span o.spans (kind_of_type i.ty) 1; imports = o.imports ++ i ∷ [] }

-- the imports of a section, one by one
abbrev pub imported : OutsideParts → List (Result ImportParts FaultAt) → Result OutsideParts Refused
imported o [] = Ok o
imported o (Ok i ∷ later) = imported (with_outside_import o i) later
imported o (Err f ∷ later) = Err (at_fault f)

-- an export of what is there
abbrev pub with_export : OutsideParts → ExportParts → Result OutsideParts Refused
with_export o e = if nat_lt e.index (span_of o.spans e.kind) then Ok (record o { exports = o.exports ++ e ∷ [] }) else
    Err (no_such (length o.exports))

-- this many exports from a place on, and nothing after them
abbrev pub exported : OutsideParts → (count : ℕ) → Place → Result OutsideParts Refused
exported o count p = after_each at_fault with_export o (items_at export_at count p)

-- this many more of the kind that a section with this id defines
abbrev pub with_section : OutsideParts → ExternalKind → ℕ → Result OutsideParts Refused
with_section o kind count = Ok (record o { spans = with_span o.spans kind count })

-- | the imports and exports of a module, in order, and how many there are of each kind; each export is an index of
--   these [`IsOutside`] <Import Section to Export Section>
-- what a part of the module adds: imports, functions, tables, memories, globals, exports and tags
abbrev pub noted : OutsideParts → Report → Result OutsideParts Refused
noted o (counted id count window) =
    if nat_eq id import_id then imported o (imports_in count window)
    else if nat_eq id function_id then with_section o kinds.Func count
    else if nat_eq id table_id then with_section o kinds.Table count
    else if nat_eq id memory_id then with_section o kinds.Memory count
    else if nat_eq id global_id then with_section o kinds.Global count
    else if nat_eq id export_id then exported o count (items_place window)
    else if nat_eq id tag_id then with_section o kinds.Tag count
    else Ok o
noted o (stream_end (fault f)) = Err (at_fault f)
noted o other = Ok o

-- ---- what calls return

-- Memory was refused.
abbrev pub IsMemory : Misfit → Type 0
IsMemory (misfits.Stream e) = fault_at e ≡ out_of_memory
IsMemory (misfits.NoSuch place) = ⊥

-- why a module has no outside
abbrev pub refused_as : Misfit → Refused
refused_as (misfits.Stream e) = at_fault (fault_at e)
refused_as (misfits.NoSuch place) = no_such place

-- This is the result, or an allocation failed.
abbrev pub Comes : Result OutsideParts Refused → Result (Unit {0}) Misfit → (after : OutsideParts) → Type 0
Comes = ComesTo IsMemory refused_as

-- This is the outside of the module that the stream is, by its reading with all features from offset 0; or it has none,
-- for this reason; or memory was refused.
abbrev pub IsOutside : List ℕ → Result Outside Misfit → Type 0
IsOutside = ReturnsFold IsMemory refused_as outside_parts noted no_parts
