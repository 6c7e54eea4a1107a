-- Lists of types, some of whose items are in the list itself.
use Rattle.std.specs.Prelude.{List}
use Rattle.wasm_items.specs.declared.type_lists.Items.{Items}
use Rattle.wasm_items.specs.declared.type_lists.Items.TheVariants.{InPlace, Allocated}

-- | the items of a list of types, wherever they are in memory; a type with its lists; a data segment with its bytes
--   as a list [; `RecGroups.rec_group_parts`, `subtype_parts`, `composite_parts`, `function_parts`;
--   `Data.data_parts`]
-- the items of a list, wherever they are in memory
abbrev pub items_of : {T P : Type 0} → (P → List T) → Items T P → List T
items_of in_place (InPlace places) = in_place places
items_of in_place (Allocated items) = items.items
