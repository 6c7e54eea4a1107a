-- The bytes of value types, reference types and heap types. Core specification, Binary format, Types.
use Rattle.std.specs.Prelude.{ℕ, ◌<◌, ◌^◌, Bool, true, false, List, [], ◌∷◌, ◌++◌, pos, Option, Some, None}
use Rattle.wasm_encode.specs.Numbers.{signed_bytes}
use Rattle.wasm_items.specs.declared.types.HeapType.{HeapType}
use Rattle.wasm_items.specs.declared.types.HeapType.TheVariants as Heaps
use Rattle.wasm_items.specs.declared.types.RefType.{RefType}
use Rattle.wasm_items.specs.declared.types.ValType.{ValType}
use Rattle.wasm_items.specs.declared.types.ValType.TheVariants as Values

-- the byte of an abstract heap type
abbrev pub heap_byte : HeapType → Option ℕ
heap_byte Heaps.Func = Some 0x70
heap_byte Heaps.Extern = Some 0x6F
heap_byte Heaps.Any = Some 0x6E
heap_byte Heaps.Eq = Some 0x6D
heap_byte Heaps.I31 = Some 0x6C
heap_byte Heaps.Struct = Some 0x6B
heap_byte Heaps.Array = Some 0x6A
heap_byte Heaps.Exn = Some 0x69
heap_byte Heaps.None = Some 0x71
heap_byte Heaps.NoExtern = Some 0x72
heap_byte Heaps.NoFunc = Some 0x73
heap_byte Heaps.NoExn = Some 0x74
heap_byte (Heaps.Concrete index) = None

-- the index of a type
abbrev pub heap_index : HeapType → ℕ
heap_index (Heaps.Concrete index) = index
heap_index other = 0

-- the index is a u32
abbrev pub HeapFits : HeapType → Type 0
HeapFits heap = heap_index heap < 2 ^ 32

abbrev pub heap_bytes_by : Option ℕ → (index : ℕ) → List ℕ
heap_bytes_by (Some byte) index = byte ∷ []
heap_bytes_by None index = signed_bytes (pos index)

-- | the bytes of a heap type, a reference type and a value type; whether their indices are u32
--   [`ref_bytes`, `val_bytes`; `HeapFits`, `ValFits`] <Types, Heap Types, Reference Types, Value Types>
-- a heap type: the byte of an abstract one, or the index of a type as a signed number
unfoldable pub heap_bytes : HeapType → List ℕ
heap_bytes heap = heap_bytes_by (heap_byte heap) (heap_index heap)

-- the byte before the heap type of a reference: a nullable one to an abstract type has none
abbrev pub ref_prefix : (nullable : Bool) → Option ℕ → Option ℕ
ref_prefix true (Some byte) = None
ref_prefix true None = Some 0x63
ref_prefix false byte = Some 0x64

abbrev pub maybe_byte : Option ℕ → List ℕ
maybe_byte (Some byte) = byte ∷ []
maybe_byte None = []

-- a reference type
unfoldable pub ref_bytes : RefType → List ℕ
ref_bytes ty = maybe_byte (ref_prefix ty.nullable (heap_byte ty.heap)) ++ heap_bytes ty.heap

-- a value type
unfoldable pub val_bytes : ValType → List ℕ
val_bytes Values.I32 = 0x7F ∷ []
val_bytes Values.I64 = 0x7E ∷ []
val_bytes Values.F32 = 0x7D ∷ []
val_bytes Values.F64 = 0x7C ∷ []
val_bytes Values.V128 = 0x7B ∷ []
val_bytes (Values.Ref ty) = ref_bytes ty

abbrev pub ValFits : ValType → Type 0
ValFits (Values.Ref ty) = HeapFits ty.heap
ValFits other = Unit {0}
