-- What a module was produced with, as plain numbers.
use Rattle.std.specs.Prelude.{ℕ, ◌-◌, length, Ok, Err}
use Rattle.wasm_base.specs.Outcome.{Outcome}
use Rattle.wasm_base.specs.Window.{Place}
use Rattle.wasm_c_items.specs.Faults.{no_fault, plain_fault}
use Rattle.wasm_base.specs.Name.{window_at}
use Rattle.wasm_custom.specs.Producers.{FieldParts, ValueParts}
use Rattle.wasm_c_items.specs.Spans.{items_span, no_span, text_after, text_span}
use Rattle.wasm_c_items.specs.declared.producers.PlainProducersField.{PlainProducersField}
use Rattle.wasm_c_items.specs.declared.producers.PlainProducersValue.{PlainProducersValue}

-- a field
abbrev pub plain_producers_field : (from : ℕ) → Place → Outcome FieldParts → PlainProducersField
plain_producers_field from p (Ok x) = record {
  fault = no_fault;
  consumed = x.1.offset - p.offset;
  name = text_span from p (length x.0.name);
  count = x.0.values.count;
  values = items_span from x.0.values;
}
plain_producers_field from p (Err f) = record {
  fault = plain_fault f;
  consumed = 0;
  name = no_span;
  count = 0;
  values = no_span;
}

-- a value
abbrev pub plain_producers_value : (from : ℕ) → Place → Outcome ValueParts → PlainProducersValue
plain_producers_value from p (Ok x) = record {
  fault = no_fault;
  consumed = x.1.offset - p.offset;
  name = text_span from p (length x.0.name);
  version = text_after from (length x.0.version) (window_at p);
}
plain_producers_value from p (Err f) = record {
  fault = plain_fault f;
  consumed = 0;
  name = no_span;
  version = no_span;
}
