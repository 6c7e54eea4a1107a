-- The fields of an item's line, by the item's value.
use Rattle.std.specs.Prelude.{ℕ, List, [], ◌∷◌, ◌++◌, codes}
use Rattle.wasm_items.specs.Data.{DataParts}
use Rattle.wasm_items.specs.Exports.{ExportParts}
use Rattle.wasm_items.specs.Imports.{ImportParts}
use Rattle.wasm_items.specs.declared.data.DataKind.{DataKind}
use Rattle.wasm_items.specs.declared.data.DataKind.TheVariants.{Passive, Active}
use Rattle.wasm_items.specs.declared.exports.ExternalKind.{ExternalKind}
use Rattle.wasm_items.specs.declared.exports.ExternalKind.TheVariants as kinds
use Rattle.wasm_items.specs.declared.globals.Global.{Global}
use Rattle.wasm_items.specs.declared.imports.TypeRef.{TypeRef}
use Rattle.wasm_items.specs.declared.imports.TypeRef.TheVariants as types
use Rattle.wasm_items.specs.declared.tables.Table.{Table}
use Rattle.wasm_items.specs.declared.tables.TableInit.{TableInit}
use Rattle.wasm_items.specs.declared.tables.TableInit.TheVariants.{RefNull, Expr}
use Rattle.wasm_items.specs.declared.types.GlobalType.{GlobalType}
use Rattle.wasm_items.specs.declared.types.MemoryType.{MemoryType}
use Rattle.wasm_items.specs.declared.types.TableType.{TableType}
use Rattle.wasm_items.specs.declared.types.TagType.{TagType}
use Rattle.wasm_output.specs.Fields.{Field, named, number, quoted, word, range, raw, flag, number_if_any}
use Rattle.wasm_show.specs.TypeText.{ref_text, val_text, mutable_text}

-- a function that the module defines: the index of its type
abbrev pub index_fields : (index : ℕ) → List Field
index_fields index = named (codes "index") (number index) ∷ []

abbrev pub table_fields : TableType → List Field
table_fields t = named (codes "element_type") (word (ref_text t.element_type))
    ∷ named (codes "table64") (flag t.table64)
    ∷ named (codes "initial") (number t.initial)
    ∷ named (codes "maximum") (number_if_any t.maximum)
    ∷ named (codes "shared") (flag t.shared) ∷ []

abbrev pub memory_fields : MemoryType → List Field
memory_fields m = named (codes "memory64") (flag m.memory64)
    ∷ named (codes "shared") (flag m.shared)
    ∷ named (codes "initial") (number m.initial)
    ∷ named (codes "maximum") (number_if_any m.maximum)
    ∷ named (codes "page_size_log2") (number_if_any m.page_size_log2) ∷ []

abbrev pub global_type_fields : GlobalType → List Field
global_type_fields g = named (codes "content_type") (word (mutable_text g.mutable (val_text g.content_type)))
    ∷ named (codes "shared") (flag g.shared) ∷ []

abbrev pub tag_fields : TagType → List Field
tag_fields t = named (codes "kind") (word (codes "exception"))
    ∷ named (codes "func_type_idx") (number t.func_type_idx) ∷ []

-- ---- items with an expression, whose text is this

abbrev pub expression_field : (name : List ℕ) → (expression : List ℕ) → List Field
expression_field name expression = named name (word expression) ∷ []

abbrev pub init_field : TableInit → (expression : List ℕ) → Field
init_field RefNull expression = named (codes "init") (word (codes "null"))
init_field (Expr init) expression = named (codes "init") (word expression)

abbrev pub table_item_fields : Table → (expression : List ℕ) → List Field
table_item_fields t expression = table_fields t.ty ++ init_field t.init expression ∷ []

abbrev pub global_fields : Global → (expression : List ℕ) → List Field
global_fields g expression = global_type_fields g.ty ++ expression_field (codes "init_expr") expression

-- what becomes of a data segment
abbrev pub data_kind_fields : DataKind → (expression : List ℕ) → List Field
data_kind_fields Passive expression = named (codes "kind") (word (codes "passive")) ∷ []
data_kind_fields (Active memory offset) expression = named (codes "kind") (word (codes "active"))
    ∷ named (codes "memory_index") (number memory)
    ∷ named (codes "offset_expr") (word expression) ∷ []

abbrev pub data_fields : DataParts → (expression : List ℕ) → List Field
data_fields d expression = data_kind_fields d.kind expression
    ++ named (codes "data") (raw d.bytes) ∷ named (codes "range") (range d.start d.end) ∷ []

-- ---- imports and exports

-- the word of what is imported or exported
abbrev pub kind_word : ExternalKind → List ℕ
kind_word kinds.Func = codes "func"
kind_word kinds.Table = codes "table"
kind_word kinds.Memory = codes "memory"
kind_word kinds.Global = codes "global"
kind_word kinds.Tag = codes "tag"
kind_word kinds.FuncExact = codes "func_exact"

abbrev pub kind_field : ExternalKind → Field
kind_field kind = named (codes "kind") (word (kind_word kind))

abbrev pub export_fields : ExportParts → List Field
export_fields e = named (codes "name") (quoted e.name)
    ∷ kind_field e.kind
    ∷ named (codes "index") (number e.index) ∷ []

-- what is imported, and its type
abbrev pub type_ref_fields : TypeRef → List Field
type_ref_fields (types.Func index) = named (codes "ty") (word (codes "func")) ∷ index_fields index
type_ref_fields (types.FuncExact index) = named (codes "ty") (word (codes "func_exact")) ∷ index_fields index
type_ref_fields (types.Table ty) = named (codes "ty") (word (codes "table")) ∷ table_fields ty
type_ref_fields (types.Memory ty) = named (codes "ty") (word (codes "memory")) ∷ memory_fields ty
type_ref_fields (types.Global ty) = named (codes "ty") (word (codes "global")) ∷ global_type_fields ty
type_ref_fields (types.Tag ty) = named (codes "ty") (word (codes "tag")) ∷ tag_fields ty

-- | the fields of an import, an export, the type of a table, a memory, a global's type, a tag, a function's index, a
--   table, a global, a data segment; of a symbol [`export_fields` and the others there; `SymbolText.symbol_fields`]
abbrev pub import_fields : ImportParts → List Field
import_fields i = named (codes "module") (quoted i.from)
    ∷ named (codes "name") (quoted i.name) ∷ type_ref_fields i.ty
