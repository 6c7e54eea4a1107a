-- The fields of the lines of what linkers read: symbols, segments, relocations. Tool conventions, Linking.
use Rattle.std.specs.Prelude.{ℕ, List, [], ◌∷◌, ◌++◌, codes, decimal, Option, Some, None}
use Rattle.wasm_custom.specs.Flags.{segment_bits, symbol_bits}
use Rattle.wasm_custom.specs.Linking.{text_if_any}
use Rattle.wasm_custom.specs.declared.dylink0.ExportInfo.{ExportInfo}
use Rattle.wasm_custom.specs.declared.dylink0.ImportInfo.{ImportInfo}
use Rattle.wasm_custom.specs.declared.linking.ComdatSymbol.{ComdatSymbol}
use Rattle.wasm_custom.specs.declared.linking.ComdatSymbolKind.{ComdatSymbolKind}
use Rattle.wasm_custom.specs.declared.linking.ComdatSymbolKind.TheVariants as kinds
use Rattle.wasm_custom.specs.declared.linking.DefinedDataSymbol.{DefinedDataSymbol}
use Rattle.wasm_custom.specs.declared.linking.InitFunc.{InitFunc}
use Rattle.wasm_custom.specs.declared.linking.Segment.{Segment}
use Rattle.wasm_custom.specs.declared.linking.SymbolInfo.{SymbolInfo}
use Rattle.wasm_custom.specs.declared.linking.SymbolInfo.TheVariants as symbols
use Rattle.wasm_custom.specs.declared.reloc.RelocationEntry.{RelocationEntry}
use Rattle.wasm_custom.specs.declared.reloc.RelocationType.{RelocationType}
use Rattle.wasm_custom.specs.declared.reloc.RelocationType.TheVariants as relocations
use Rattle.wasm_show.specs.FlagText.{segment_words, symbol_words, words_text}
use Rattle.wasm_output.specs.Fields.{Field, named, alone, nothing, number, quoted, signed, word, Value}

abbrev pub quoted_if_any : Option (List ℕ) → Value
quoted_if_any (Some text) = quoted text
quoted_if_any None = nothing

-- a symbol that has an index and perhaps a name
abbrev pub indexed_fields : (kind : List ℕ) → (flags index : ℕ) → (name : Option (List ℕ)) → List Field
indexed_fields kind flags index name = alone kind
    ∷ named (codes "flags") (word (words_text symbol_words flags))
    ∷ named (codes "index") (number index)
    ∷ named (codes "name") (quoted_if_any name) ∷ []

-- where the data of a symbol is, if it is here
abbrev pub defined_fields : Option DefinedDataSymbol → List Field
defined_fields (Some s) = named (codes "index") (number s.index)
    ∷ named (codes "offset") (number s.offset)
    ∷ named (codes "size") (number s.size) ∷ []
defined_fields None = alone (codes "undefined") ∷ []

abbrev pub data_symbol_fields : (flags : ℕ) → (name : List ℕ) → Option DefinedDataSymbol → List Field
data_symbol_fields flags name symbol = alone (codes "data")
    ∷ named (codes "flags") (word (words_text symbol_words flags))
    ∷ named (codes "name") (quoted name) ∷ defined_fields symbol

abbrev pub section_symbol_fields : (flags section : ℕ) → List Field
section_symbol_fields flags section = alone (codes "section")
    ∷ named (codes "flags") (word (words_text symbol_words flags))
    ∷ named (codes "section") (number section) ∷ []

abbrev pub symbol_fields : SymbolInfo → List Field
symbol_fields (symbols.Func flags index name) = indexed_fields (codes "func") (symbol_bits flags) index
    (text_if_any name (λ text. text.now))
symbol_fields (symbols.Global flags index name) = indexed_fields (codes "global") (symbol_bits flags) index
    (text_if_any name (λ text. text.now))
symbol_fields (symbols.Event flags index name) = indexed_fields (codes "event") (symbol_bits flags) index
    (text_if_any name (λ text. text.now))
symbol_fields (symbols.Table flags index name) = indexed_fields (codes "table") (symbol_bits flags) index
    (text_if_any name (λ text. text.now))
symbol_fields (symbols.Data flags name symbol) = data_symbol_fields (symbol_bits flags) name.now symbol
symbol_fields (symbols.Section flags section) = section_symbol_fields (symbol_bits flags) section

-- the number of a symbol, as items of index spaces have theirs
abbrev pub symbol_number : (index : ℕ) → Field
symbol_number index = alone (codes "symbol[" ++ (decimal index ++ codes "]"))

-- ---- segments and functions to call at startup

abbrev pub segment_fields : Segment → List Field
segment_fields s = named (codes "name") (quoted s.name.now) ∷ named (codes "alignment") (number s.alignment)
    ∷ named (codes "flags") (word (words_text segment_words (segment_bits s.flags))) ∷ []

abbrev pub init_fields : InitFunc → List Field
init_fields f = named (codes "priority") (number f.priority) ∷ named (codes "symbol_index") (number f.symbol_index) ∷ []

-- ---- symbols of comdats

abbrev pub comdat_kind_word : ComdatSymbolKind → List ℕ
comdat_kind_word kinds.Data = codes "data"
comdat_kind_word kinds.Func = codes "func"
comdat_kind_word kinds.Global = codes "global"
comdat_kind_word kinds.Event = codes "event"
comdat_kind_word kinds.Table = codes "table"
comdat_kind_word kinds.Section = codes "section"

abbrev pub comdat_symbol_fields : ComdatSymbol → List Field
comdat_symbol_fields s = named (codes "kind") (word (comdat_kind_word s.kind))
    ∷ named (codes "index") (number s.index) ∷ []

-- ---- flags of what is linked dynamically. Tool conventions, Dynamic Linking.

abbrev pub export_info_fields : ExportInfo → List Field
export_info_fields e = named (codes "name") (quoted e.name.now)
    ∷ named (codes "flags") (word (words_text symbol_words (symbol_bits e.flags))) ∷ []

abbrev pub import_info_fields : ImportInfo → List Field
import_info_fields i = named (codes "module") (quoted i.module.now) ∷ named (codes "field") (quoted i.field.now)
    ∷ named (codes "flags") (word (words_text symbol_words (symbol_bits i.flags))) ∷ []

-- ---- relocations. Tool conventions, Linking, Relocation Sections.

abbrev pub relocation_type_word : RelocationType → List ℕ
relocation_type_word relocations.FunctionIndexLeb = codes "R_WASM_FUNCTION_INDEX_LEB"
relocation_type_word relocations.TableIndexSleb = codes "R_WASM_TABLE_INDEX_SLEB"
relocation_type_word relocations.TableIndexI32 = codes "R_WASM_TABLE_INDEX_I32"
relocation_type_word relocations.MemoryAddrLeb = codes "R_WASM_MEMORY_ADDR_LEB"
relocation_type_word relocations.MemoryAddrSleb = codes "R_WASM_MEMORY_ADDR_SLEB"
relocation_type_word relocations.MemoryAddrI32 = codes "R_WASM_MEMORY_ADDR_I32"
relocation_type_word relocations.TypeIndexLeb = codes "R_WASM_TYPE_INDEX_LEB"
relocation_type_word relocations.GlobalIndexLeb = codes "R_WASM_GLOBAL_INDEX_LEB"
relocation_type_word relocations.FunctionOffsetI32 = codes "R_WASM_FUNCTION_OFFSET_I32"
relocation_type_word relocations.SectionOffsetI32 = codes "R_WASM_SECTION_OFFSET_I32"
relocation_type_word relocations.EventIndexLeb = codes "R_WASM_EVENT_INDEX_LEB"
relocation_type_word relocations.MemoryAddrRelSleb = codes "R_WASM_MEMORY_ADDR_REL_SLEB"
relocation_type_word relocations.TableIndexRelSleb = codes "R_WASM_TABLE_INDEX_REL_SLEB"
relocation_type_word relocations.GlobalIndexI32 = codes "R_WASM_GLOBAL_INDEX_I32"
relocation_type_word relocations.MemoryAddrLeb64 = codes "R_WASM_MEMORY_ADDR_LEB64"
relocation_type_word relocations.MemoryAddrSleb64 = codes "R_WASM_MEMORY_ADDR_SLEB64"
relocation_type_word relocations.MemoryAddrI64 = codes "R_WASM_MEMORY_ADDR_I64"
relocation_type_word relocations.MemoryAddrRelSleb64 = codes "R_WASM_MEMORY_ADDR_REL_SLEB64"
relocation_type_word relocations.TableIndexSleb64 = codes "R_WASM_TABLE_INDEX_SLEB64"
relocation_type_word relocations.TableIndexI64 = codes "R_WASM_TABLE_INDEX_I64"
relocation_type_word relocations.TableNumberLeb = codes "R_WASM_TABLE_NUMBER_LEB"
relocation_type_word relocations.MemoryAddrTlsSleb = codes "R_WASM_MEMORY_ADDR_TLS_SLEB"
relocation_type_word relocations.FunctionOffsetI64 = codes "R_WASM_FUNCTION_OFFSET_I64"
relocation_type_word relocations.MemoryAddrLocrelI32 = codes "R_WASM_MEMORY_ADDR_LOCREL_I32"
relocation_type_word relocations.TableIndexRelSleb64 = codes "R_WASM_TABLE_INDEX_REL_SLEB64"
relocation_type_word relocations.MemoryAddrTlsSleb64 = codes "R_WASM_MEMORY_ADDR_TLS_SLEB64"
relocation_type_word relocations.FunctionIndexI32 = codes "R_WASM_FUNCTION_INDEX_I32"

abbrev pub relocation_fields : RelocationEntry → List Field
relocation_fields r = named (codes "type") (word (relocation_type_word r.ty)) ∷ named (codes "offset") (number r.offset)
    ∷ named (codes "index") (number r.index) ∷ named (codes "addend") (signed r.addend) ∷ []
