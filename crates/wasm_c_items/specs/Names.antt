-- Names and subsections as plain numbers.
use Rattle.std.specs.Prelude.{ℕ, ◌-◌, length, Ok, Err}
use Rattle.wasm_base.specs.Outcome.{Outcome}
use Rattle.wasm_base.specs.Window.{Place, Window}
use Rattle.wasm_c_items.specs.Faults.{no_fault, plain_fault}
use Rattle.wasm_base.specs.Number.{unsigned_at}
use Rattle.wasm_base.specs.declared.fault.NumberKind.TheVariants.{VarU32}
use Rattle.wasm_base.specs.Section.{Section}
use Rattle.wasm_custom.specs.Names.{NamingParts}
use Rattle.wasm_custom.specs.declared.names.IndirectNaming.{IndirectNaming}
use Rattle.wasm_c_items.specs.Spans.{items_span, no_span, text_after, window_span}
use Rattle.wasm_c_items.specs.declared.names.PlainSubsection.{PlainSubsection}
use Rattle.wasm_c_items.specs.declared.names.PlainIndirectNaming.{PlainIndirectNaming}
use Rattle.wasm_c_items.specs.declared.names.PlainNaming.{PlainNaming}

-- a subsection of this many bytes
abbrev pub subsection_from : (from consumed id : ℕ) → Window → PlainSubsection
subsection_from from consumed id window = record {
  fault = no_fault;
  consumed = consumed;
  id = id;
  contents = window_span from window;
}

-- a subsection
abbrev pub plain_subsection : (from : ℕ) → Place → Outcome (ℕ × Window) → PlainSubsection
plain_subsection from p (Ok x) = subsection_from from (x.1.offset - p.offset) x.0.0 x.0.1
plain_subsection from p (Err f) = record {
  fault = plain_fault f;
  consumed = 0;
  id = 0;
  contents = no_span;
}

-- an index and its name
abbrev pub plain_naming : (from : ℕ) → Place → Outcome NamingParts → PlainNaming
plain_naming from p (Ok x) = record {
  fault = no_fault;
  consumed = x.1.offset - p.offset;
  index = x.0.index;
  name = text_after from (length x.0.name) (unsigned_at VarU32 p);
}
plain_naming from p (Err f) = record {
  fault = plain_fault f;
  consumed = 0;
  index = 0;
  name = no_span;
}

-- an index, and the section of its names
abbrev pub indirect_from : (from consumed index : ℕ) → Section → PlainIndirectNaming
indirect_from from consumed index names = record {
  fault = no_fault;
  consumed = consumed;
  index = index;
  count = names.count;
  names = items_span from names;
}

-- an index and the names of what it has
abbrev pub plain_indirect : (from : ℕ) → Place → Outcome IndirectNaming → PlainIndirectNaming
plain_indirect from p (Ok x) = indirect_from from (x.1.offset - p.offset) x.0.index
    (record { reader = x.0.names.entries.reader; count = x.0.names.entries.count })
plain_indirect from p (Err f) = record {
  fault = plain_fault f;
  consumed = 0;
  index = 0;
  count = 0;
  names = no_span;
}
