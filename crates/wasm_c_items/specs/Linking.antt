-- What a linker reads, as plain numbers.
use Rattle.std.specs.Prelude.{ℕ, ◌-◌, length, Ok, Err}
use Rattle.wasm_base.specs.Outcome.{Outcome}
use Rattle.wasm_base.specs.Window.{Place}
use Rattle.wasm_c_items.specs.Faults.{no_fault, plain_fault}
use Rattle.wasm_custom.specs.Linking.{ComdatParts, SegmentParts}
use Rattle.wasm_custom.specs.declared.linking.ComdatSymbol.{ComdatSymbol}
use Rattle.wasm_custom.specs.declared.linking.ComdatSymbolKind.{ComdatSymbolKind}
use Rattle.wasm_custom.specs.declared.linking.ComdatSymbolKind.TheVariants.{Data, Func, Global, Event, Table, Section}
use Rattle.wasm_custom.specs.declared.linking.InitFunc.{InitFunc}
use Rattle.wasm_c_items.specs.Spans.{items_span, no_span, text_span}
use Rattle.wasm_c_items.specs.declared.linking.PlainLinkingSegment.{PlainLinkingSegment}
use Rattle.wasm_c_items.specs.declared.linking.PlainInitFunction.{PlainInitFunction}
use Rattle.wasm_c_items.specs.declared.linking.PlainComdat.{PlainComdat}
use Rattle.wasm_c_items.specs.declared.linking.PlainComdatSymbol.{PlainComdatSymbol}

abbrev pub comdat_code : ComdatSymbolKind → ℕ
comdat_code Data = 0
comdat_code Func = 1
comdat_code Global = 2
comdat_code Event = 3
comdat_code Table = 4
comdat_code Section = 5

-- a segment
abbrev pub plain_linking_segment : (from : ℕ) → Place → Outcome SegmentParts → PlainLinkingSegment
plain_linking_segment from p (Ok x) = record {
  fault = no_fault;
  consumed = x.1.offset - p.offset;
  name = text_span from p (length x.0.name);
  alignment = x.0.alignment;
  flags = x.0.flags;
}
plain_linking_segment from p (Err f) = record {
  fault = plain_fault f;
  consumed = 0;
  name = no_span;
  alignment = 0;
  flags = 0;
}

-- a function that is called at first
abbrev pub plain_init_function : (from : ℕ) → Place → Outcome InitFunc → PlainInitFunction
plain_init_function from p (Ok x) = record {
  fault = no_fault;
  consumed = x.1.offset - p.offset;
  priority = x.0.priority;
  symbol = x.0.symbol_index;
}
plain_init_function from p (Err f) = record {
  fault = plain_fault f;
  consumed = 0;
  priority = 0;
  symbol = 0;
}

-- a comdat
abbrev pub plain_comdat : (from : ℕ) → Place → Outcome ComdatParts → PlainComdat
plain_comdat from p (Ok x) = record {
  fault = no_fault;
  consumed = x.1.offset - p.offset;
  name = text_span from p (length x.0.name);
  flags = x.0.flags;
  count = x.0.symbols.count;
  symbols = items_span from x.0.symbols;
}
plain_comdat from p (Err f) = record {
  fault = plain_fault f;
  consumed = 0;
  name = no_span;
  flags = 0;
  count = 0;
  symbols = no_span;
}

-- a symbol of a comdat
abbrev pub plain_comdat_symbol : (from : ℕ) → Place → Outcome ComdatSymbol → PlainComdatSymbol
plain_comdat_symbol from p (Ok x) = record {
  fault = no_fault;
  consumed = x.1.offset - p.offset;
  kind = comdat_code x.0.kind;
  index = x.0.index;
}
plain_comdat_symbol from p (Err f) = record {
  fault = plain_fault f;
  consumed = 0;
  kind = 0;
  index = 0;
}
