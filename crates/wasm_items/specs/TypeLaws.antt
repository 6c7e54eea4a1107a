-- That the heads of groups of types and of subtypes are those of the definitions of both. Core specification,
-- Binary format, Types, Recursive Types and Composite Types.
use Rattle.std.specs.Prelude.{◌≡◌, ℕ, Ok}
use Rattle.wasm_base.specs.Outcome.{Outcome, ◌>>=◌}
use Rattle.wasm_base.specs.Owned.{in_turn, list_at}
use Rattle.wasm_base.specs.Window.{Place}
use Rattle.wasm_items.specs.RecGroups.{CompositeParts, RecGroupParts, SubtypeParts, arrays_at}
use Rattle.wasm_items.specs.RecGroups.{field_type_at, functions, rec_group_at, structures, subtype_at}
use Rattle.wasm_items.specs.Values.{val_type_at}
use Rattle.wasm_items.specs.TypeHeads.{group_head_at, subtype_head_at}
use Rattle.wasm_items.specs.declared.type_heads.CompositeKind.{CompositeKind}
use Rattle.wasm_items.specs.declared.type_heads.CompositeKind.TheVariants.{Func, Array, Struct}
use Rattle.wasm_items.specs.declared.type_heads.RecGroupHead.{RecGroupHead}
use Rattle.wasm_items.specs.declared.type_heads.SubTypeHead.{SubTypeHead}

-- a composite type after its head: parameters, and the list of results; a field; or fields
abbrev pub composite_after : (kind : CompositeKind) (count : ℕ) → Place → Outcome CompositeParts
composite_after Func count p = do
  params ← in_turn val_type_at count p
  results ← list_at val_type_at params.1
  Ok (functions (record { params = params.0; results = results.0 }), results.1)
composite_after Array count p = arrays_at p
composite_after Struct count p = do
  fields ← in_turn field_type_at count p
  Ok (structures fields.0, fields.1)

-- a subtype after its head
abbrev pub subtype_after : SubTypeHead → Place → Outcome SubtypeParts
subtype_after head p = do
  composite ← composite_after head.kind head.count p
  Ok (record { final = head.is_final; supertype = head.supertype; composite = composite.0 }, composite.1)

-- a group after its head
abbrev pub group_after : RecGroupHead → Place → Outcome RecGroupParts
group_after head p = do
  types ← in_turn subtype_at head.count p
  Ok (record { explicit = head.explicit; types = types.0 }, types.1)

-- | a group, and a subtype, is its head and what comes after it [`SubtypesHaveHeads`] <Types, Recursive Types,
--   Composite Types>
-- A group is its head and this many subtypes; a subtype its head, and what its kind has.
abbrev pub GroupsHaveHeads : Type 0
GroupsHaveHeads = (p : Place) → rec_group_at p ≡ (group_head_at p >>= λ head. group_after head.0 head.1)

abbrev pub SubtypesHaveHeads : Type 0
SubtypesHaveHeads = (p : Place) → subtype_at p ≡ (subtype_head_at p >>= λ head. subtype_after head.0 head.1)
