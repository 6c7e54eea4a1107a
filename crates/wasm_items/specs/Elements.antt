-- Element segments. Core specification, Binary format, Modules, Element Section.
use Rattle.std.specs.Prelude.{ℕ, ◌-◌, Bool, true, ◌||◌, Option, Some, None, Ok, Err, if◌then◌else◌}
use Rattle.wasm_base.specs.Bits.{has_bit}
use Rattle.wasm_base.specs.FaultAt.{at_offset}
use Rattle.wasm_base.specs.Leading.{flags_at}
use Rattle.wasm_base.specs.Number.{unsigned_at}
use Rattle.wasm_base.specs.Outcome.{Outcome, ◌>>=◌}
use Rattle.wasm_base.specs.Window.{Place}
use Rattle.wasm_base.specs.declared.fault.Fault.TheVariants.{ElementFlags, ElementFunctionOnly}
use Rattle.wasm_base.specs.declared.fault.NumberKind.TheVariants.{VarU32}
use Rattle.wasm_items.specs.Externals.{kind_at}
use Rattle.wasm_items.specs.Init.{end_of_expression, expression_at}
use Rattle.wasm_base.specs.Inner.{inner_section_at, after_reading}
use Rattle.wasm_items.specs.Values.{ref_type_at}
use Rattle.wasm_items.specs.declared.elements.Element.{Element}
use Rattle.wasm_items.specs.declared.elements.ElementItems.{ElementItems}
use Rattle.wasm_items.specs.declared.elements.ElementItems.TheVariants.{Functions, Expressions}
use Rattle.wasm_items.specs.declared.elements.ElementKind.{ElementKind}
use Rattle.wasm_items.specs.declared.elements.ElementKind.TheVariants.{Passive, Active, Declared}
use Rattle.wasm_items.specs.declared.exports.ExternalKind.{ExternalKind}
use Rattle.wasm_items.specs.declared.exports.ExternalKind.TheVariants.{Func}
use Rattle.wasm_items.specs.declared.types.HeapType.TheVariants as Heaps
use Rattle.wasm_items.specs.declared.types.RefType.{RefType}

-- flags that were read, or a fault at their last byte
abbrev pub or_element_flags : Option ℕ → Place → Outcome ℕ
or_element_flags None p = Err (at_offset ElementFlags (p.offset - 1))
or_element_flags (Some flags) p = Ok (flags, p)

-- | the flags of an element segment, which are below 8: the bits of passive or declared, of a table's index or
--   declared, of expressions [`element_kind_at`, `is_typed`] <Element Section>
-- flags below 8; other flags are a fault at their last byte
unfoldable pub element_flags_at : Place → Outcome ℕ
element_flags_at p = do
  flags ← flags_at 7 p
  or_element_flags flags.0 flags.1

-- an active segment: the expression of its offset in the table
abbrev pub active_element_at : (table : Option ℕ) → Place → Outcome ElementKind
active_element_at table p = do
  offset ← expression_at p
  Ok (Active table (record { reader = offset.0 }), offset.1)

-- an active segment with a table index
abbrev pub indexed_element_at : Place → Outcome ElementKind
indexed_element_at p = do
  table ← unsigned_at VarU32 p
  active_element_at (Some table.0) table.1

-- whether a segment is passive or declared
abbrev pub is_not_active : (flags : ℕ) → Bool
is_not_active flags = has_bit flags 0

-- whether an active segment has a table index, or any other segment is declared
abbrev pub is_indexed_or_declared : (flags : ℕ) → Bool
is_indexed_or_declared flags = has_bit flags 1

-- whether the elements are expressions rather than function indices
abbrev pub has_expressions : (flags : ℕ) → Bool
has_expressions flags = has_bit flags 2

-- the kind of a segment
unfoldable pub element_kind_at : (flags : ℕ) → Place → Outcome ElementKind
element_kind_at flags p =
    if is_not_active flags then (if is_indexed_or_declared flags then Ok (Declared, p) else Ok (Passive, p))
    else if is_indexed_or_declared flags then indexed_element_at p
    else active_element_at None p

-- whether the kind or the type of the elements is present: an active segment without a table index has neither
abbrev pub is_typed : (flags : ℕ) → Bool
is_typed flags = is_not_active flags || is_indexed_or_declared flags

abbrev pub only_functions : ExternalKind → (offset : ℕ) → Place → Outcome (Unit {0})
only_functions Func offset p = Ok (tt, p)
only_functions kind offset p = Err (at_offset ElementFunctionOnly offset)

-- | the kind of the elements, which has to be that of functions, or their type; without either it is `funcref`
--   [`element_type_at`] <Element Section>
-- the kind of the elements: an external kind, which must be that of functions
unfoldable pub skipped_element_kind_at : Place → Outcome (Unit {0})
skipped_element_kind_at p = do
  kind ← kind_at p
  only_functions kind.0 p.offset kind.1

-- the place after the kind of the elements, if present
abbrev pub after_element_kind : (flags : ℕ) → Place → Outcome (Unit {0})
after_element_kind flags p = if is_typed flags then skipped_element_kind_at p else Ok (tt, p)

-- | the elements: a list of indices, or of expressions, as the section that they are [`expression_elements_at`]
--   <Element Section>
-- elements that are functions: their kind, and a list of their indices
unfoldable pub function_elements_at : (flags : ℕ) → Place → Outcome ElementItems
function_elements_at flags p = do
  kind ← after_element_kind flags p
  indices ← inner_section_at (after_reading (unsigned_at VarU32)) kind.1
  Ok (Functions indices.0, indices.1)

-- a reference to a function, or null
abbrev pub funcref : RefType
funcref = record { nullable = true; heap = Heaps.Func }

-- the type of the elements, if present; without one it is `funcref`
abbrev pub element_type_at : (flags : ℕ) → Place → Outcome RefType
element_type_at flags p = if is_typed flags then ref_type_at p else Ok (funcref, p)

-- elements that are expressions: their type, and a list of expressions
unfoldable pub expression_elements_at : (flags : ℕ) → Place → Outcome ElementItems
expression_elements_at flags p = do
  ty ← element_type_at flags p
  expressions ← inner_section_at end_of_expression ty.1
  Ok (Expressions ty.0 expressions.0, expressions.1)

-- the elements
abbrev pub elements_at : (flags : ℕ) → Place → Outcome ElementItems
elements_at flags p = if has_expressions flags then expression_elements_at flags p else function_elements_at flags p

-- | an element segment <Element Section>
-- an element segment: flags, its kind, its elements
unfoldable pub element_at : Place → Outcome Element
element_at p = do
  flags ← element_flags_at p
  kind ← element_kind_at flags.0 flags.1
  items ← elements_at flags.0 kind.1
  Ok (record { kind = kind.0; items = items.0; range = record { start = p.offset; end = items.1.offset } }, items.1)
