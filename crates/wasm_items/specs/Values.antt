-- Types of values, references and heaps. Core specification, Binary format, Types.
use Rattle.std.specs.Prelude.{ℕ, ◌==◌, Bool, true, false, [], ◌∷◌, ℤ, pos, negsuc, Option, Some}
use Rattle.std.specs.Prelude.{None, Ok, Err, if◌then◌else◌}
use Rattle.wasm_base.specs.FaultAt.{FaultAt}
use Rattle.wasm_base.specs.Name.{byte_at, peeked_byte_at}
use Rattle.wasm_base.specs.Signed.{signed_at}
use Rattle.wasm_base.specs.Outcome.{Outcome, ◌>>=◌}
use Rattle.wasm_base.specs.Window.{Place, advanced}
use Rattle.wasm_base.specs.declared.fault.Lead.{Lead}
use Rattle.wasm_base.specs.declared.fault.Lead.TheVariants as Leads
use Rattle.wasm_base.specs.declared.fault.NumberKind.TheVariants.{VarS33}
use Rattle.wasm_base.specs.Leading.{leading_byte, lookup}
use Rattle.wasm_items.specs.declared.types.HeapType.{HeapType}
use Rattle.wasm_items.specs.declared.types.HeapType.TheVariants as Heaps
use Rattle.wasm_items.specs.declared.types.RefType.{RefType}
use Rattle.wasm_items.specs.declared.types.ValType.{ValType}
use Rattle.wasm_items.specs.declared.types.ValType.TheVariants as Values

-- | an abstract heap type of each byte; a heap type: such a byte, or the index of a type, a signed 33-bit number that
--   is not negative [`type_index`, `heap_type_at`] <Types, Heap Types>
-- the abstract heap type that each byte encodes (Heap Types)
abbrev pub abstract_heap_of : ℕ → Option HeapType
abstract_heap_of = lookup (
    (0x69, Heaps.Exn) ∷ (0x6A, Heaps.Array) ∷ (0x6B, Heaps.Struct) ∷ (0x6C, Heaps.I31) ∷ (0x6D, Heaps.Eq)
    ∷ (0x6E, Heaps.Any) ∷ (0x6F, Heaps.Extern) ∷ (0x70, Heaps.Func) ∷ (0x71, Heaps.None) ∷ (0x72, Heaps.NoExtern) ∷
    (0x73, Heaps.NoFunc)
    ∷ (0x74, Heaps.NoExn) ∷ [])

-- a signed number as the index of a type, which is not negative; the fault has the first byte of the heap type
abbrev pub type_index : (first start : ℕ) → ℤ × Place → Outcome HeapType
type_index first start (pos index, after) = Ok (Heaps.Concrete index, after)
type_index first start (negsuc n, after) = Err (leading_byte Leads.Heap first start)

-- a heap type with this first byte, by the abstract heap type that the byte encodes
abbrev pub heap_type_from : (first : ℕ) → Place → Option HeapType → Outcome HeapType
heap_type_from first p (Some heap) = Ok (heap, advanced 1 p)
heap_type_from first p None = do
  index ← signed_at VarS33 p
  type_index first p.offset index

-- a heap type (Heap Types)
unfoldable pub heap_type_at : Place → Outcome HeapType
heap_type_at p = do
  first ← peeked_byte_at p
  heap_type_from first.0 p (abstract_heap_of first.0)

-- | a reference type: an abstract heap type alone for a nullable one, or a byte that says whether it is nullable, and
--   a heap type [`ref_type_in`, `ref_type_at`] <Types, Reference Types>
-- a reference to the heap type at a place
abbrev pub reference_to : (nullable : Bool) → Place → Outcome RefType
reference_to nullable p = do
  heap ← heap_type_at p
  Ok (record { nullable = nullable; heap = heap.0 }, heap.1)

-- a reference type after its first byte, by the abstract heap type that the byte encodes, or else this fault
abbrev pub ref_type_after : FaultAt → ℕ × Place → Option HeapType → Outcome RefType
ref_type_after fault first (Some heap) = Ok (record { nullable = true; heap = heap }, first.1)
ref_type_after fault first None =
    if first.0 == 0x63 then reference_to true first.1
    else if first.0 == 0x64 then reference_to false first.1
    else Err fault

-- a reference type; any other first byte is a fault with this `lead`
unfoldable pub ref_type_in : Lead → Place → Outcome RefType
ref_type_in lead p = do
  first ← byte_at p
  ref_type_after (leading_byte lead first.0 p.offset) first (abstract_heap_of first.0)

-- a reference type (Reference Types)
abbrev pub ref_type_at : Place → Outcome RefType
ref_type_at = ref_type_in Leads.Reference

-- | a value type: a number or vector type of one byte, or a reference type [`val_type_at`] <Types, Number Types,
--   Vector Types, Value Types>
-- the number type or vector type that each byte encodes (Number Types, Vector Types)
abbrev pub plain_type_of : ℕ → Option ValType
plain_type_of = lookup (
    (0x7F, Values.I32) ∷ (0x7E, Values.I64) ∷ (0x7D, Values.F32) ∷ (0x7C, Values.F64) ∷ (0x7B, Values.V128) ∷ [])

-- a value type, by the number type or vector type that its first byte encodes
abbrev pub val_type_from : Place → Option ValType → Outcome ValType
val_type_from p (Some plain) = Ok (plain, advanced 1 p)
val_type_from p None = do
  reference ← ref_type_in Leads.Value p
  Ok (Values.Ref reference.0, reference.1)

-- a value type (Value Types)
unfoldable pub val_type_at : Place → Outcome ValType
val_type_at p = do
  first ← peeked_byte_at p
  val_type_from p (plain_type_of first.0)
