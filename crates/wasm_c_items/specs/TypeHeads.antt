-- The heads of groups of types and of subtypes, as plain numbers. Core specification, Binary format, Types, Recursive
-- Types and Composite Types.
use Rattle.std.specs.Prelude.{ℕ, ◌-◌, Ok, Err}
use Rattle.wasm_base.specs.Outcome.{Outcome}
use Rattle.wasm_base.specs.Window.{Place}
use Rattle.wasm_c_items.specs.Faults.{no_fault, number_flag, number_or_0, plain_fault}
use Rattle.wasm_c_items.specs.Spans.{flag}
use Rattle.wasm_c_items.specs.declared.types.PlainSubtype.{PlainSubtype}
use Rattle.wasm_c_items.specs.declared.types.PlainTypeGroup.{PlainTypeGroup}
use Rattle.wasm_items.specs.declared.type_heads.CompositeKind.{CompositeKind}
use Rattle.wasm_items.specs.declared.type_heads.CompositeKind.TheVariants.{Func, Array, Struct}
use Rattle.wasm_items.specs.declared.type_heads.RecGroupHead.{RecGroupHead}
use Rattle.wasm_items.specs.declared.type_heads.SubTypeHead.{SubTypeHead}

-- the number of a kind of composite types
abbrev pub composite_number : CompositeKind → ℕ
composite_number Func = 0
composite_number Array = 1
composite_number Struct = 2

-- | the heads of groups of types and of subtypes, as plain numbers [`plain_subtype`]
-- the head of a group
abbrev pub plain_type_group : (from : ℕ) → Place → Outcome RecGroupHead → PlainTypeGroup
plain_type_group from p (Ok x) = record {
  fault = no_fault;
  consumed = x.1.offset - p.offset;
  is_explicit = flag x.0.explicit;
  count = x.0.count;
}
plain_type_group from p (Err f) = record { fault = plain_fault f; consumed = 0; is_explicit = 0; count = 0 }

-- the head of a subtype
abbrev pub plain_subtype : (from : ℕ) → Place → Outcome SubTypeHead → PlainSubtype
plain_subtype from p (Ok x) = record {
  fault = no_fault;
  consumed = x.1.offset - p.offset;
  is_final = flag x.0.is_final;
  has_supertype = number_flag x.0.supertype;
  supertype = number_or_0 x.0.supertype;
  kind = composite_number x.0.kind;
  count = x.0.count;
}
plain_subtype from p (Err f) = record {
  fault = plain_fault f;
  consumed = 0;
  is_final = 0;
  has_supertype = 0;
  supertype = 0;
  kind = 0;
  count = 0;
}
