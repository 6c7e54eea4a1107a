-- Groups of types. Core specification, Binary format, Types, Recursive Types and Composite Types, and Modules, Type
-- Section.
use Rattle.std.specs.Prelude.{ℕ, zero, suc, ◌==◌, Bool, true, false, List, [], ◌∷◌, map, Option, Some, None, Ok, Err}
use Rattle.std.specs.Prelude.{if◌then◌else◌}
use Rattle.wasm_base.specs.FaultAt.{at_offset}
use Rattle.wasm_base.specs.Name.{byte_at, peeked_byte_at}
use Rattle.wasm_base.specs.Number.{unsigned_at}
use Rattle.wasm_base.specs.Outcome.{Outcome, ◌>>=◌}
use Rattle.wasm_base.specs.Owned.{list_at}
use Rattle.wasm_base.specs.Window.{Place, advanced}
use Rattle.wasm_base.specs.declared.fault.Fault.TheVariants.{Supertypes}
use Rattle.wasm_base.specs.declared.fault.Lead.TheVariants as Leads
use Rattle.wasm_base.specs.declared.fault.NumberKind.TheVariants.{VarU32}
use Rattle.wasm_base.specs.Leading.{leading_byte, lookup_or, flag_at}
use Rattle.wasm_items.specs.Values.{val_type_at}
use Rattle.wasm_items.specs.declared.types.CompositeType.{CompositeType}
use Rattle.wasm_items.specs.declared.types.CompositeType.TheVariants.{Func, Array, Struct}
use Rattle.wasm_items.specs.declared.types.FieldType.{FieldType}
use Rattle.wasm_items.specs.declared.types.FuncType.{FuncType}
use Rattle.wasm_items.specs.declared.types.RecGroup.{RecGroup}
use Rattle.wasm_items.specs.declared.types.StorageType.{StorageType}
use Rattle.wasm_items.specs.declared.types.StorageType.TheVariants.{I8, I16, Val}
use Rattle.wasm_items.specs.declared.types.SubType.{SubType}
use Rattle.wasm_items.specs.declared.types.ValType.{ValType}

-- a value type that a field holds
abbrev pub value_storage_at : Place → Outcome StorageType
value_storage_at p = do
  value ← val_type_at p
  Ok (Val value.0, value.1)

-- | a storage type: 0x78, 0x77 or a value type; a field: that, and 0 or 1 [`mutability_at`, `field_type_at`] <Types,
--   Composite Types>
-- what a field holds: 0x78 for 8 bits, 0x77 for 16, or a value type (Composite Types)
unfoldable pub storage_type_at : Place → Outcome StorageType
storage_type_at p = do
  first ← peeked_byte_at p
  if first.0 == 0x78 then Ok (I8, advanced 1 p)
      else if first.0 == 0x77 then Ok (I16, advanced 1 p)
      else value_storage_at p

-- whether a field is mutable: 0 for one that isn't, 1 for one that is
abbrev pub mutability_at : Place → Outcome Bool
mutability_at = flag_at Leads.Mutability

-- a field: its storage type, and whether it is mutable (Composite Types)
unfoldable pub field_type_at : Place → Outcome FieldType
field_type_at p = do
  storage ← storage_type_at p
  mutable ← mutability_at storage.1
  Ok (record { storage = storage.0; mutable = mutable.0 }, mutable.1)

-- the type of a function, with its lists
pub record FunctionParts : Type 0 where
  pub params : List ValType
  pub results : List ValType

abbrev pub function_parts : FuncType → FunctionParts
function_parts function = record { params = function.params; results = function.results }

-- | a function type: the lists of its parameters and results; a composite type: 0x60 and that, 0x5F and a list of
--   fields, 0x5E and a field [`composite_type_at`] <Types, Composite Types>
-- the type of a function: the list of its parameters, and that of its results (Composite Types)
unfoldable pub func_type_at : Place → Outcome FunctionParts
func_type_at p = do
  params ← list_at val_type_at p
  results ← list_at val_type_at params.1
  Ok (record { params = params.0; results = results.0 }, results.1)

-- a composite type, with its lists
pub data CompositeParts : Type 0 where
  functions : FunctionParts → CompositeParts
  arrays : FieldType → CompositeParts
  structures : List FieldType → CompositeParts

abbrev pub composite_parts : CompositeType → CompositeParts
composite_parts (Func function) = functions (function_parts function)
composite_parts (Array element) = arrays element
composite_parts (Struct fields) = structures fields

abbrev pub functions_at : Place → Outcome CompositeParts
functions_at p = do
  function ← func_type_at p
  Ok (functions function.0, function.1)

abbrev pub arrays_at : Place → Outcome CompositeParts
arrays_at p = do
  element ← field_type_at p
  Ok (arrays element.0, element.1)

abbrev pub structures_at : Place → Outcome CompositeParts
structures_at p = do
  fields ← list_at field_type_at p
  Ok (structures fields.0, fields.1)

-- A composite type: 0x60 for functions, 0x5F for structures, 0x5E for arrays. Any other first byte is a fault at it
-- (Composite Types).
unfoldable pub composite_type_at : Place → Outcome CompositeParts
composite_type_at p = do
  first ← byte_at p
  lookup_or {A = Place → Outcome CompositeParts} (λ after. Err (leading_byte Leads.Composite first.0 p.offset))
      ((0x60, functions_at) ∷ (0x5F, structures_at) ∷ (0x5E, arrays_at) ∷ []) first.0 first.1

-- a type with the type that it extends, and its lists
pub record SubtypeParts : Type 0 where
  pub final : Bool
  pub supertype : Option ℕ
  pub composite : CompositeParts

abbrev pub subtype_parts : SubType → SubtypeParts
subtype_parts subtype = record {
  final = subtype.is_final;
  supertype = subtype.supertype;
  composite = composite_parts subtype.composite;
}

-- the index of a type that is extended
abbrev pub one_supertype_at : Place → Outcome (Option ℕ)
one_supertype_at p = do
  index ← unsigned_at VarU32 p
  Ok (Some index.0, index.1)

-- no supertype or one, by their count; more are a fault at the count
abbrev pub supertypes_after : (count offset : ℕ) → Place → Outcome (Option ℕ)
supertypes_after zero offset p = Ok (None, p)
supertypes_after (suc zero) offset p = one_supertype_at p
supertypes_after (suc (suc n)) offset p = Err (at_offset Supertypes offset)

-- | a subtype: 0x50 or 0x4F, no supertype or one, and a composite type; or a composite type alone [`extending_at`,
--   `subtype_at`] <Types, Recursive Types>
-- the list of the types that a type extends, at most one
unfoldable pub supertypes_at : Place → Outcome (Option ℕ)
supertypes_at p = do
  count ← unsigned_at VarU32 p
  supertypes_after count.0 p.offset count.1

-- a subtype after its first byte: its supertypes and its composite type
unfoldable pub extending_at : (final : Bool) → Place → Outcome SubtypeParts
extending_at final p = do
  supertype ← supertypes_at p
  composite ← composite_type_at supertype.1
  Ok (record { final = final; supertype = supertype.0; composite = composite.0 }, composite.1)

-- a composite type alone, which is final and extends nothing
abbrev pub plain_subtype_at : Place → Outcome SubtypeParts
plain_subtype_at p = do
  composite ← composite_type_at p
  Ok (record { final = true; supertype = None; composite = composite.0 }, composite.1)

-- a subtype: 0x50, or 0x4F if it is final, and its parts; or a composite type alone (Recursive Types)
unfoldable pub subtype_at : Place → Outcome SubtypeParts
subtype_at p = do
  first ← peeked_byte_at p
  if first.0 == 0x50 then extending_at false (advanced 1 p)
      else if first.0 == 0x4F then extending_at true (advanced 1 p)
      else plain_subtype_at p

-- a group of types, with its lists
pub record RecGroupParts : Type 0 where
  pub explicit : Bool
  pub types : List SubtypeParts

abbrev pub rec_group_parts : RecGroup → RecGroupParts
rec_group_parts group = record { explicit = group.explicit; types = map subtype_parts group.types }

-- the types of an explicit group
abbrev pub whole_group_at : Place → Outcome RecGroupParts
whole_group_at p = do
  types ← list_at subtype_at p
  Ok (record { explicit = true; types = types.0 }, types.1)

-- a group of one type
abbrev pub single_group_at : Place → Outcome RecGroupParts
single_group_at p = do
  one ← subtype_at p
  Ok (record { explicit = false; types = one.0 ∷ [] }, one.1)

-- | an item of a type section: 0x4E and a list of subtypes, or one subtype <Types, Recursive Types; Type Section>
unfoldable pub rec_group_at : Place → Outcome RecGroupParts
rec_group_at p = do
  first ← peeked_byte_at p
  if first.0 == 0x4E then whole_group_at (advanced 1 p) else single_group_at p
