-- The imports of an import section one by one, without their bundles. Core specification, Binary format, Modules,
-- Import Section; the bundles are of the proposal for compact imports.
use Rattle.std.specs.Prelude.{◌≡◌, ℕ, zero, suc, List, [], ◌∷◌, ◌++◌, map, Option, Some, None, IfSome, Result, Ok, Err}
use Rattle.std.specs.Prelude.{if◌then◌else◌}
use Rattle.std.specs.Iterator.{Drains}
use Rattle.wasm_base.specs.FaultAt.{FaultAt, fault_at}
use Rattle.wasm_base.specs.Hints.{NotOutOfMemory}
use Rattle.wasm_base.specs.Name.{name_limit, text_at}
use Rattle.wasm_base.specs.Outcome.{Outcome}
use Rattle.wasm_base.specs.Section.{Items, at_the_end}
use Rattle.wasm_base.specs.Window.{Place, place}
use Rattle.wasm_base.specs.declared.error.Error.{Error}
use Rattle.wasm_items.specs.Imports.{ImportParts, import_parts, ItemParts, item_at, Bundle, single, of_module, of_type}
use Rattle.wasm_items.specs.Imports.{bundle_at}
use Rattle.wasm_items.specs.declared.imports.Import.{Import}
use Rattle.wasm_items.specs.declared.imports.TypeRef.{TypeRef}

-- an import of a bundle, with the bundle's module
abbrev pub import_of_item : (from : List ℕ) → ItemParts → ImportParts
import_of_item from item = record { from = from; name = item.name; ty = item.ty }

-- a name of a bundle, with the bundle's module and type
abbrev pub import_of_name : (from : List ℕ) → TypeRef → (name : List ℕ) → ImportParts
import_of_name from ty name = record { from = from; name = name; ty = ty }

-- an import with its offset and the imports after it, or its fault, which ends the bundle
abbrev pub one_and_more : {A : Type 0} → (A → ImportParts) → (offset : ℕ)
    → (Place → List (Result (ℕ × ImportParts) FaultAt)) → Outcome A → List (Result (ℕ × ImportParts) FaultAt)
one_and_more import_of offset more (Ok x) = Ok (offset, import_of x.0) ∷ more x.1
one_and_more import_of offset more (Err e) = Err e ∷ []

-- the `left` remaining imports of a bundle from a place on, each with its offset
abbrev pub imports_from : {A : Type 0} → (Place → Outcome A) → (A → ImportParts) → (left : ℕ) → Place
    → List (Result (ℕ × ImportParts) FaultAt)
imports_from reading import_of zero p = at_the_end p
imports_from reading import_of (suc left) p = one_and_more import_of p.offset
    (λ q. imports_from reading import_of left q) (reading p)

-- the remaining items of a bundle, as imports
abbrev pub imports_of_items : (from : List ℕ) → Items → List (Result (ℕ × ImportParts) FaultAt)
imports_of_items from s = if s.ended then [] else imports_from item_at (import_of_item from) s.left (place s.reader)

-- the remaining names of a bundle, as imports
abbrev pub imports_of_names : (from : List ℕ) → TypeRef → Items → List (Result (ℕ × ImportParts) FaultAt)
imports_of_names from ty s = if s.ended then [] else imports_from (text_at (Some name_limit)) (import_of_name from ty)
    s.left (place s.reader)

-- | the imports of an item of an import section, each with its offset, up to the first fault; for a bundle that of
--   each import, for a single import that of the item [`imports_from`]
-- the imports of an item of an import section: the single import, or those of the bundle
abbrev pub bundle_imports : Bundle → List (Result (ℕ × ImportParts) FaultAt)
bundle_imports (single offset one) = Ok (offset, one) ∷ []
bundle_imports (of_module from items) = imports_from item_at (import_of_item from) items.count (place items.reader)
bundle_imports (of_type from ty names) = imports_from (text_at (Some name_limit)) (import_of_name from ty) names.count
    (place names.reader)

-- the imports of a bundle and those after it, or its fault, which ends the list
abbrev pub bundle_and_more : (Place → List (Result (ℕ × ImportParts) FaultAt)) → Outcome Bundle
    → List (Result (ℕ × ImportParts) FaultAt)
bundle_and_more more (Ok x) = bundle_imports x.0 ++ more x.1
bundle_and_more more (Err e) = Err e ∷ []

-- | the imports of a section: those of its items in order; after a fault in a bundle the next one follows, after the
--   fault of an item nothing
-- the imports of the `left` remaining bundles from a place on, in order
abbrev pub flattened : (left : ℕ) → Place → List (Result (ℕ × ImportParts) FaultAt)
flattened zero p = at_the_end p
flattened (suc left) p = bundle_and_more (λ q. flattened left q) (bundle_at p)

-- the imports of the remaining bundles of an import section
abbrev pub imports_of_bundles : Items → List (Result (ℕ × ImportParts) FaultAt)
imports_of_bundles s = if s.ended then [] else flattened s.left (place s.reader)

-- an import without its offset, or the fault
abbrev pub import_alone : Result (ℕ × ImportParts) FaultAt → Result ImportParts FaultAt
import_alone (Ok x) = Ok x.1
import_alone (Err e) = Err e

-- what an iterator returned: an import with its offset, or the fault of the error
abbrev pub found_at : Result (ℕ × Import) Error → Result (ℕ × ImportParts) FaultAt
found_at (Ok x) = Ok (x.0, import_parts x.1)
found_at (Err e) = Err (fault_at e)

-- what an iterator returned: an import, or the fault of the error
abbrev pub found : Result Import Error → Result ImportParts FaultAt
found (Ok x) = Ok (import_parts x)
found (Err e) = Err (fault_at e)

-- | of the remaining results the first was returned and the others remain; one call of `next`, which does not
--   allocate; calls of `next` return all that remain [`NextImport`, `GivesAll`]
-- The first of the remaining items is returned and the others remain, or nothing is returned and nothing remains.
abbrev pub GivesFirst : {A B : Type 0} → (A → B) → List B → Option A → List B → Type 0
GivesFirst view before (Some given) after = before ≡ view given ∷ after
GivesFirst view before None after = (before ≡ []) × (after ≡ [])

-- one call of `next`, which never returns `OutOfMemory`
abbrev pub NextImport : {X B : Type 0} → (Result X Error → B) → List B → Option (Result X Error) → List B → Type 0
NextImport view before given after = GivesFirst view before given after × IfSome given NotOutOfMemory

-- `next` returns all remaining items in order, and then only `None`.
pub record GivesAll {A B : Type 0} (view : A → B) (next : List B → Option A → List B → Type 0) : Type 0 where
  pub items : (s : List B) (given : List A) → Drains next s given → map view given ≡ s
  pub after : (s t u : List B) (given : Option A) → next s None t → next t given u → given ≡ None
