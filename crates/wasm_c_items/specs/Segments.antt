-- Expressions and segments as plain numbers.
use Rattle.std.specs.Prelude.{ℕ, ◌-◌, length, Option, None, Ok, Err}
use Rattle.wasm_base.specs.Outcome.{Outcome}
use Rattle.wasm_base.specs.Section.{Section}
use Rattle.wasm_base.specs.Window.{Place, Window}
use Rattle.wasm_items.specs.Data.{DataParts}
use Rattle.wasm_items.specs.Elements.{funcref}
use Rattle.wasm_items.specs.Windows.{expression_window}
use Rattle.wasm_items.specs.declared.data.DataKind.{DataKind}
use Rattle.wasm_items.specs.declared.data.DataKind.TheVariants as Datas
use Rattle.wasm_items.specs.declared.elements.Element.{Element}
use Rattle.wasm_items.specs.declared.elements.ElementItems.{ElementItems}
use Rattle.wasm_items.specs.declared.elements.ElementItems.TheVariants.{Functions, Expressions}
use Rattle.wasm_items.specs.declared.elements.ElementKind.{ElementKind}
use Rattle.wasm_items.specs.declared.elements.ElementKind.TheVariants.{Passive, Active, Declared}
use Rattle.wasm_items.specs.declared.types.RefType.{RefType}
use Rattle.wasm_c_items.specs.Faults.{no_fault, number_flag, number_or_0, plain_fault}
use Rattle.wasm_c_items.specs.Spans.{items_span, no_span, span_before, window_span}
use Rattle.wasm_c_items.specs.Values.{plain_ref, simple_type}
use Rattle.wasm_c_items.specs.declared.segments.PlainData.{PlainData}
use Rattle.wasm_c_items.specs.declared.segments.PlainElement.{PlainElement}
use Rattle.wasm_c_items.specs.declared.segments.PlainExpression.{PlainExpression}
use Rattle.wasm_c_items.specs.declared.spans.PlainSpan.{PlainSpan}

-- a constant expression, whose bytes are those that it takes
abbrev pub plain_expression : (from : ℕ) → Place → Outcome Window → PlainExpression
plain_expression from p (Ok x) = record { fault = no_fault; consumed = x.1.offset - p.offset }
plain_expression from p (Err f) = record { fault = plain_fault f; consumed = 0 }

abbrev pub element_code : ElementKind → ℕ
element_code Passive = 0
element_code (Active table offset) = 1
element_code Declared = 2

-- the table of an active segment, if it is written
abbrev pub element_table : ElementKind → Option ℕ
element_table (Active table offset) = table
element_table other = None

-- the expression of an active segment's offset
abbrev pub element_offset : (from : ℕ) → ElementKind → PlainSpan
element_offset from (Active table offset) = window_span from (expression_window offset)
element_offset from other = no_span

abbrev pub has_expressions : ElementItems → ℕ
has_expressions (Functions indices) = 0
has_expressions (Expressions ty expressions) = 1

-- the type of the elements: functions, or what is written
abbrev pub elements_type : ElementItems → RefType
elements_type (Functions indices) = funcref
elements_type (Expressions ty expressions) = ty

abbrev pub elements_section : ElementItems → Section
elements_section (Functions indices) = indices
elements_section (Expressions ty expressions) = expressions

-- an element segment that takes this many bytes from an offset on
abbrev pub element_from : (from consumed : ℕ) → Element → PlainElement
element_from from consumed e = record {
  fault = no_fault;
  consumed = consumed;
  kind = element_code e.kind;
  has_table = number_flag (element_table e.kind);
  table = number_or_0 (element_table e.kind);
  has_expressions = has_expressions e.items;
  offset_expression = element_offset from e.kind;
  ty = plain_ref (elements_type e.items);
  items = items_span from (elements_section e.items);
  count = (elements_section e.items).count;
}

-- an element segment
abbrev pub plain_element : (from : ℕ) → Place → Outcome Element → PlainElement
plain_element from p (Ok x) = element_from from (x.1.offset - p.offset) x.0
plain_element from p (Err f) = record {
  fault = plain_fault f;
  consumed = 0;
  kind = 0;
  has_table = 0;
  table = 0;
  has_expressions = 0;
  offset_expression = no_span;
  ty = simple_type 0;
  items = no_span;
  count = 0;
}

abbrev pub data_code : DataKind → ℕ
data_code Datas.Passive = 0
data_code (Datas.Active memory offset) = 1

abbrev pub data_memory : DataKind → ℕ
data_memory Datas.Passive = 0
data_memory (Datas.Active memory offset) = memory

abbrev pub data_offset : (from : ℕ) → DataKind → PlainSpan
data_offset from Datas.Passive = no_span
data_offset from (Datas.Active memory offset) = window_span from (expression_window offset)

-- a data segment, whose bytes come last
abbrev pub plain_data : (from : ℕ) → Place → Outcome DataParts → PlainData
plain_data from p (Ok x) = record {
  fault = no_fault;
  consumed = x.1.offset - p.offset;
  kind = data_code x.0.kind;
  memory = data_memory x.0.kind;
  offset_expression = data_offset from x.0.kind;
  bytes = span_before from x.0.end (length x.0.bytes);
}
plain_data from p (Err f) = record {
  fault = plain_fault f;
  consumed = 0;
  kind = 0;
  memory = 0;
  offset_expression = no_span;
  bytes = no_span;
}
