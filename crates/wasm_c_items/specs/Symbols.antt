-- Symbols as plain numbers.
use Rattle.std.specs.Prelude.{ℕ, ◌-◌, ◌==◌, List, length, Option, Some, None, Ok, Err, if◌then◌else◌}
use Rattle.wasm_base.specs.Name.{byte_at}
use Rattle.wasm_base.specs.Number.{unsigned_at}
use Rattle.wasm_base.specs.Outcome.{Outcome, ◌>>=◌}
use Rattle.wasm_base.specs.Window.{Place}
use Rattle.wasm_base.specs.declared.fault.Fault.TheVariants.{LinkingVersion}
use Rattle.wasm_base.specs.declared.fault.NumberKind.TheVariants.{VarU32}
use Rattle.wasm_custom.specs.Linking.{SymbolParts, indexed, data_symbol, section_symbol}
use Rattle.wasm_custom.specs.declared.linking.DefinedDataSymbol.{DefinedDataSymbol}
use Rattle.wasm_c_items.specs.Faults.{no_fault, plain_fault}
use Rattle.wasm_c_items.specs.Spans.{no_span, span_before, text_after}
use Rattle.wasm_c_items.specs.declared.spans.PlainSpan.{PlainSpan}
use Rattle.wasm_c_items.specs.declared.symbols.PlainSymbol.{PlainSymbol}

-- | the version of a `linking` section <tool conventions, Linking>
-- the version of a section for linkers, which has to be 2; another is a fault at it, with it
unfoldable pub linking_version_at : Place → Outcome ℕ
linking_version_at p = do
  version ← unsigned_at VarU32 p
  if version.0 == 2 then Ok version else
      Err (record { fault = LinkingVersion; offset = p.offset; number = Some version.0 })

-- the flags of a symbol, after its kind
abbrev pub symbol_flags_at : Place → Outcome ℕ
symbol_flags_at p = do
  kind ← byte_at p
  unsigned_at VarU32 kind.1

abbrev pub no_symbol : PlainSymbol
no_symbol = record {
  fault = no_fault;
  consumed = 0;
  name = no_span;
  kind = 0;
  flags = 0;
  index = 0;
  has_name = 0;
  is_defined = 0;
  data_offset = 0;
  data_size = 0;
}

-- whether there is a name, and its span as the last part of a symbol that ends at an offset
abbrev pub symbol_name_parts : (from to : ℕ) → Option (List ℕ) → ℕ × PlainSpan
symbol_name_parts from to None = (0, no_span)
symbol_name_parts from to (Some text) = (1, span_before from to (length text))

abbrev pub indexed_symbol : (consumed kind flags index : ℕ) → (name : ℕ × PlainSpan) → PlainSymbol
indexed_symbol consumed kind flags index name = record no_symbol {
  consumed = consumed;
  name = name.1;
  kind = kind;
  flags = flags;
  index = index;
  has_name = name.0;
}

-- a data symbol, and its location if it is defined here
abbrev pub placed_symbol : PlainSymbol → Option DefinedDataSymbol → PlainSymbol
placed_symbol s None = s
placed_symbol s (Some d) =
    record s { index = d.index; is_defined = 1; data_offset = d.offset; data_size = d.size }

abbrev pub named_symbol : (consumed flags : ℕ) → PlainSpan → PlainSymbol
named_symbol consumed flags name =
    record no_symbol { consumed = consumed; name = name; kind = 1; flags = flags; has_name = 1 }

-- a symbol at a place that ends at an offset
abbrev pub symbol_from : (from : ℕ) → Place → (to : ℕ) → SymbolParts → PlainSymbol
symbol_from from p to (indexed kind flags index name) =
    indexed_symbol (to - p.offset) kind flags index (symbol_name_parts from to name)
symbol_from from p to (data_symbol flags name symbol) =
    placed_symbol (named_symbol (to - p.offset) flags (text_after from (length name) (symbol_flags_at p))) symbol
symbol_from from p to (section_symbol flags section) =
    record no_symbol { consumed = to - p.offset; kind = 3; flags = flags; index = section }

-- a symbol
abbrev pub plain_symbol : (from : ℕ) → Place → Outcome SymbolParts → PlainSymbol
plain_symbol from p (Ok x) = symbol_from from p x.1.offset x.0
plain_symbol from p (Err f) = record no_symbol { fault = plain_fault f }
