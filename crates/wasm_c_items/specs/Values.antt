-- Types of values as plain numbers.
use Rattle.std.specs.Prelude.{ℕ, ◌-◌, false, Ok, Err}
use Rattle.wasm_base.specs.Outcome.{Outcome}
use Rattle.wasm_base.specs.Window.{Place}
use Rattle.wasm_items.specs.declared.types.FieldType.{FieldType}
use Rattle.wasm_items.specs.declared.types.HeapType.{HeapType}
use Rattle.wasm_items.specs.declared.types.HeapType.TheVariants as Heaps
use Rattle.wasm_items.specs.declared.types.RefType.{RefType}
use Rattle.wasm_items.specs.declared.types.StorageType.{StorageType}
use Rattle.wasm_items.specs.declared.types.StorageType.TheVariants.{I8, I16, Val}
use Rattle.wasm_items.specs.declared.types.ValType.{ValType}
use Rattle.wasm_items.specs.declared.types.ValType.TheVariants.{I32, I64, F32, F64, V128, Ref}
use Rattle.wasm_c_items.specs.Faults.{no_fault, plain_fault}
use Rattle.wasm_c_items.specs.Spans.{flag}
use Rattle.wasm_c_items.specs.declared.values.PlainField.{PlainField}
use Rattle.wasm_c_items.specs.declared.values.PlainType.{PlainType}
use Rattle.wasm_c_items.specs.declared.values.PlainValue.{PlainValue}

abbrev pub heap_code : HeapType → ℕ
heap_code Heaps.Func = 0
heap_code Heaps.Extern = 1
heap_code Heaps.Any = 2
heap_code Heaps.Eq = 3
heap_code Heaps.I31 = 4
heap_code Heaps.Struct = 5
heap_code Heaps.Array = 6
heap_code Heaps.Exn = 7
heap_code Heaps.None = 8
heap_code Heaps.NoExtern = 9
heap_code Heaps.NoFunc = 10
heap_code Heaps.NoExn = 11
heap_code (Heaps.Concrete index) = 12

-- the index of the type that a heap type names
abbrev pub heap_index : HeapType → ℕ
heap_index (Heaps.Concrete index) = index
heap_index other = 0

-- a type that is a number alone
abbrev pub simple_type : (kind : ℕ) → PlainType
simple_type kind = record { kind = kind; nullable = 0; heap = 0; index = 0 }

abbrev pub plain_ref : RefType → PlainType
plain_ref r = record { kind = 5; nullable = flag r.nullable; heap = heap_code r.heap; index = heap_index r.heap }

abbrev pub plain_type : ValType → PlainType
plain_type I32 = simple_type 0
plain_type I64 = simple_type 1
plain_type F32 = simple_type 2
plain_type F64 = simple_type 3
plain_type V128 = simple_type 4
plain_type (Ref r) = plain_ref r

abbrev pub plain_storage : StorageType → PlainType
plain_storage I8 = simple_type 6
plain_storage I16 = simple_type 7
plain_storage (Val value) = plain_type value

-- a value type
abbrev pub plain_value : (from : ℕ) → Place → Outcome ValType → PlainValue
plain_value from p (Ok x) = record { fault = no_fault; consumed = x.1.offset - p.offset; ty = plain_type x.0 }
plain_value from p (Err f) = record { fault = plain_fault f; consumed = 0; ty = simple_type 0 }

-- a heap type, as a reference that is not nullable
abbrev pub plain_heap : HeapType → PlainType
plain_heap heap = plain_ref (record { nullable = false; heap = heap })

abbrev pub plain_heap_type : (from : ℕ) → Place → Outcome HeapType → PlainValue
plain_heap_type from p (Ok x) = record { fault = no_fault; consumed = x.1.offset - p.offset; ty = plain_heap x.0 }
plain_heap_type from p (Err f) = plain_value from p (Err f)

-- a reference type
abbrev pub plain_reference_type : (from : ℕ) → Place → Outcome RefType → PlainValue
plain_reference_type from p (Ok x) = record { fault = no_fault; consumed = x.1.offset - p.offset; ty = plain_ref x.0 }
plain_reference_type from p (Err f) = plain_value from p (Err f)

-- a field
abbrev pub plain_field : (from : ℕ) → Place → Outcome FieldType → PlainField
plain_field from p (Ok x) = record {
  fault = no_fault;
  consumed = x.1.offset - p.offset;
  ty = plain_storage x.0.storage;
  is_mutable = flag x.0.mutable;
}
plain_field from p (Err f) = record { fault = plain_fault f; consumed = 0; ty = simple_type 0; is_mutable = 0 }
