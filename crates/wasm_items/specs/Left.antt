-- The remaining imports of an item of an import section.
use Rattle.std.specs.Prelude.{ℕ, List, [], ◌∷◌, Some, None, Result, Ok}
use Rattle.wasm_base.specs.FaultAt.{FaultAt}
use Rattle.wasm_items.specs.Flattened.{imports_of_items, imports_of_names}
use Rattle.wasm_items.specs.Imports.{ImportParts, import_parts}
use Rattle.wasm_items.specs.declared.flattened.ItemsLeft.{ItemsLeft}
use Rattle.wasm_items.specs.declared.flattened.Left.{Left}
use Rattle.wasm_items.specs.declared.flattened.Left.TheVariants.{One, Items, Names}
use Rattle.wasm_items.specs.declared.flattened.NamesLeft.{NamesLeft}

-- the remaining imports of a bundle of one module, each with its offset, up to the first fault
abbrev pub items_left : ItemsLeft → List (Result (ℕ × ImportParts) FaultAt)
items_left bundle = imports_of_items bundle.module.now bundle.items

-- the remaining imports of a bundle of one module and one type
abbrev pub names_left : NamesLeft → List (Result (ℕ × ImportParts) FaultAt)
names_left bundle = imports_of_names bundle.module.now bundle.ty bundle.names

-- the remaining imports of an item of an import section
abbrev pub imports_left : Left → List (Result (ℕ × ImportParts) FaultAt)
imports_left (One None) = []
imports_left (One (Some one)) = Ok (one.0, import_parts one.1) ∷ []
imports_left (Items bundle) = items_left bundle
imports_left (Names bundle) = names_left bundle
