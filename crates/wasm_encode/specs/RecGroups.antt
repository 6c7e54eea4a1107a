-- The bytes of groups of types. Core specification, Binary format, Types, Recursive Types and Composite Types, and
-- Modules, Type Section.
use Rattle.std.specs.Prelude.{◌≡◌, ℕ, ◌-◌, ◌==◌, ◌^◌, Bool, true, false, ◌||◌, List, [], ◌∷◌, ◌++◌, length}
use Rattle.std.specs.Prelude.{Option, Some, None, if◌then◌else◌}
use Rattle.wasm_encode.specs.Limits.{flag, IsBelow}
use Rattle.wasm_encode.specs.Numbers.{unsigned_bytes}
use Rattle.wasm_encode.specs.Sections.{ListFits, content_bytes, items_bytes}
use Rattle.wasm_encode.specs.Types.{ValFits, val_bytes}
use Rattle.wasm_items.specs.declared.types.CompositeType.{CompositeType}
use Rattle.wasm_items.specs.declared.types.CompositeType.TheVariants.{Func, Array, Struct}
use Rattle.wasm_items.specs.declared.types.FieldType.{FieldType}
use Rattle.wasm_items.specs.declared.types.FuncType.{FuncType}
use Rattle.wasm_items.specs.declared.types.RecGroup.{RecGroup}
use Rattle.wasm_items.specs.declared.types.StorageType.{StorageType}
use Rattle.wasm_items.specs.declared.types.StorageType.TheVariants.{I8, I16, Val}
use Rattle.wasm_items.specs.declared.types.SubType.{SubType}

-- what a field holds
unfoldable pub storage_bytes : StorageType → List ℕ
storage_bytes I8 = 0x78 ∷ []
storage_bytes I16 = 0x77 ∷ []
storage_bytes (Val ty) = val_bytes ty

abbrev pub StorageFits : StorageType → Type 0
StorageFits (Val ty) = ValFits ty
StorageFits other = Unit {0}

-- a field: what it holds, and whether it is mutable
unfoldable pub field_bytes : FieldType → List ℕ
field_bytes field = storage_bytes field.storage ++ flag field.mutable 1 ∷ []

-- A list in a type has fewer bytes than this.
abbrev pub list_bound : ℕ
list_bound = 2 ^ 30

-- the type of a function: the list of its parameters, and that of its results
unfoldable pub func_bytes : FuncType → List ℕ
func_bytes ty = content_bytes val_bytes ty.params ++ content_bytes val_bytes ty.results

pub record FuncFits (ty : FuncType) : Type 0 where
  pub params : ListFits list_bound val_bytes ValFits ty.params
  pub results : ListFits list_bound val_bytes ValFits ty.results

-- a composite type: a byte and the type of a function, of an array's elements, or the list of a structure's fields
unfoldable pub composite_bytes : CompositeType → List ℕ
composite_bytes (Func function) = 0x60 ∷ func_bytes function
composite_bytes (Array element) = 0x5E ∷ field_bytes element
composite_bytes (Struct fields) = 0x5F ∷ content_bytes field_bytes fields

abbrev pub CompositeFits : CompositeType → Type 0
CompositeFits (Func function) = FuncFits function
CompositeFits (Array element) = StorageFits element.storage
CompositeFits (Struct fields) = ListFits list_bound field_bytes (λ field. StorageFits field.storage) fields

-- the first byte of a subtype that isn't its composite type alone
abbrev pub extending_byte : (final : Bool) → ℕ
extending_byte true = 0x4F
extending_byte false = 0x50

-- what a subtype has before its composite type: a byte and the list of its supertypes, or nothing if it is final and
-- extends nothing
abbrev pub subtype_head : (final : Bool) → (supertype : Option ℕ) → List ℕ
subtype_head true None = []
subtype_head false None = 0x50 ∷ 0 ∷ []
subtype_head final (Some index) = extending_byte final ∷ 1 ∷ unsigned_bytes index

-- a subtype
unfoldable pub subtype_bytes : SubType → List ℕ
subtype_bytes ty = subtype_head ty.is_final ty.supertype ++ composite_bytes ty.composite

pub record SubtypeFits (ty : SubType) : Type 0 where
  pub supertype : IsBelow (2 ^ 32) ty.supertype
  pub composite : CompositeFits ty.composite

-- A group that isn't explicit has one type.
abbrev pub is_counted : (explicit : Bool) → (count : ℕ) → Bool
is_counted explicit count = explicit || count == 1

-- | the bytes of a group of types, and of its subtypes, composite, function, field and storage types; whether they fit:
--   each list in a type has fewer than 2^30 bytes, and a group that isn't explicit one type [`subtype_bytes`,
--   `composite_bytes`, `func_bytes`, `field_bytes`, `storage_bytes`; `GroupFits`, `SubtypeFits`, `CompositeFits`,
--   `FuncFits`, `StorageFits`, `is_counted`] <Types, Recursive Types, Composite Types>
-- an item of a type section: 0x4E and a list of subtypes, or one subtype
unfoldable pub group_bytes : RecGroup → List ℕ
group_bytes group =
    if group.explicit then 0x4E ∷ content_bytes subtype_bytes group.types else items_bytes subtype_bytes group.types

pub record GroupFits (group : RecGroup) : Type 0 where
  pub count : is_counted group.explicit (length group.types) ≡ true
  pub types : ListFits (2 ^ 32 - 1) subtype_bytes SubtypeFits group.types
