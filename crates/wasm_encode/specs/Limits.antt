-- The bytes of the types of tables, memories, globals and tags. Core specification, Binary format, Types.
use Rattle.std.specs.Prelude.{ℕ, ◌+◌, ◌<◌, ◌^◌, Bool, true, false, ◌||◌, IsTrue, List, [], ◌∷◌, ◌++◌, Option}
use Rattle.std.specs.Prelude.{Some, None, nat_lt}
use Rattle.wasm_base.specs.Features.{takes_wide_limits}
use Rattle.wasm_encode.specs.Numbers.{unsigned_bytes}
use Rattle.wasm_encode.specs.Types.{HeapFits, ref_bytes, val_bytes}
use Rattle.wasm_items.specs.declared.types.GlobalType.{GlobalType}
use Rattle.wasm_items.specs.declared.types.MemoryType.{MemoryType}
use Rattle.wasm_items.specs.declared.types.TableType.{TableType}
use Rattle.wasm_items.specs.declared.types.TagType.{TagType}

-- a flag, if it is set
abbrev pub flag : Bool → ℕ → ℕ
flag true weight = weight
flag false weight = 0

abbrev pub is_present : Option ℕ → Bool
is_present (Some n) = true
is_present None = false

-- a number, if there is one
abbrev pub maybe_number : Option ℕ → List ℕ
maybe_number (Some n) = unsigned_bytes n
maybe_number None = []

-- a minimum, and a maximum if there is one
unfoldable pub limits_bytes : ℕ → Option ℕ → List ℕ
limits_bytes initial maximum = unsigned_bytes initial ++ maybe_number maximum

-- limits are u64
abbrev pub IsBelow : (bound : ℕ) → Option ℕ → Type 0
IsBelow bound (Some n) = n < bound
IsBelow bound None = Unit {0}

pub record LimitsFit (least : ℕ) (most : Option ℕ) : Type 0 where
  pub initial : least < 2 ^ 64
  pub maximum : IsBelow (2 ^ 64) most

-- Readers without 64-bit memories take limits of 32 bits.
abbrev pub takes_limit : (features n : ℕ) → Bool
takes_limit features n = takes_wide_limits features || nat_lt n (2 ^ 32)

abbrev pub takes_maximum : (features : ℕ) → Option ℕ → Bool
takes_maximum features (Some n) = takes_limit features n
takes_maximum features None = true

-- | limits that readers with these features read <this project>
pub record LimitsAllowed (features least : ℕ) (most : Option ℕ) : Type 0 where
  pub initial : IsTrue (takes_limit features least)
  pub maximum : IsTrue (takes_maximum features most)

-- | the bytes of the types of tables, memories, globals and tags; what of them fits [`memory_type_bytes`,
--   `global_type_bytes`, `tag_type_bytes`; `TableFits`, `MemoryFits`] <Types, Table Types, Memory Types, Global Types,
--   Tag Types>
-- a table type: the type of its elements, flags, limits
abbrev pub table_flags : TableType → ℕ
table_flags ty = flag (is_present ty.maximum) 1 + flag ty.shared 2 + flag ty.table64 4

unfoldable pub table_type_bytes : TableType → List ℕ
table_type_bytes ty = ref_bytes ty.element_type ++ table_flags ty ∷ limits_bytes ty.initial ty.maximum

pub record TableFits (ty : TableType) : Type 0 where
  pub element : HeapFits ty.element_type.heap
  pub limits : LimitsFit ty.initial ty.maximum

-- a memory type: flags, limits, the size of a page if it is given
abbrev pub memory_flags : MemoryType → ℕ
memory_flags ty = flag (is_present ty.maximum) 1 + flag ty.shared 2 + flag ty.memory64 4
    + flag (is_present ty.page_size_log2) 8

unfoldable pub memory_type_bytes : MemoryType → List ℕ
memory_type_bytes ty = memory_flags ty ∷ (limits_bytes ty.initial ty.maximum ++ maybe_number ty.page_size_log2)

pub record MemoryFits (ty : MemoryType) : Type 0 where
  pub limits : LimitsFit ty.initial ty.maximum
  pub page : IsBelow 64 ty.page_size_log2

-- a global type: the type of its value, and flags
abbrev pub global_flags : GlobalType → ℕ
global_flags ty = flag ty.mutable 1 + flag ty.shared 2

unfoldable pub global_type_bytes : GlobalType → List ℕ
global_type_bytes ty = val_bytes ty.content_type ++ global_flags ty ∷ []

-- a tag type: 0x00 and the index of a type
unfoldable pub tag_type_bytes : TagType → List ℕ
tag_type_bytes ty = 0x00 ∷ unsigned_bytes ty.func_type_idx
