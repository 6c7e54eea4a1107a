-- The imports of a section one by one, those of bundles among them (the proposal for compact imports).
use Rattle.std.specs.Prelude.{ℕ, zero, suc, ◌+◌, ◌-◌, ◌^◌, min, Bool, false, List, drop, Option, Some, None}
use Rattle.std.specs.Prelude.{nat_eq, if◌then◌else◌}
use Rattle.wasm_base.specs.Name.{name_limit, text_at}
use Rattle.wasm_items.specs.Imports.{bundle_at, item_at}
use Rattle.wasm_c_items.specs.Cursors.{item_by, next_by, start_of, starting}
use Rattle.wasm_c_items.specs.Imports.{no_import, plain_import, plain_import_item, plain_named}
use Rattle.wasm_frames.specs.Stored.{is_set}
use Rattle.wasm_c_items.specs.declared.cursors.StoredItems.{StoredItems}
use Rattle.wasm_c_items.specs.declared.events.PlainEvent.{PlainEvent}
use Rattle.wasm_c_items.specs.declared.flat_imports.StoredImports.{StoredImports}
use Rattle.wasm_c_items.specs.declared.imports.PlainImport.{PlainImport}
use Rattle.wasm_c_items.specs.declared.imports.PlainImportItem.{PlainImportItem}

-- a cursor at the first import of the section of this event
abbrev pub imports_from : PlainEvent → (features : ℕ) → StoredImports
imports_from event features = record {
  items = starting event.data_offset (event.data_offset - event.start) event.count features;
  bundled = starting 0 0 0 features;
  bundle = no_import;
}

-- whether the next import is one of the bundle
abbrev pub is_within : StoredImports → Bool
is_within c = if is_set c.bundled.is_ended then false else is_set c.bundled.remaining

-- a cursor that has moved to the first import of a bundle
abbrev pub entered : (bundle : PlainImport) → StoredImports → StoredImports
entered bundle c = record c {
  bundled = starting (min (start_of c.items + bundle.items.at) (2 ^ 64 - 1)) bundle.items.at bundle.count
      c.items.features;
  bundle = bundle;
}

-- the import at which the cursor of a bundle is: a name of one type's bundle, and else a name and what it is
abbrev pub bundled_by : PlainImport → StoredItems → List ℕ → Option PlainImportItem × StoredItems
bundled_by bundle c rest = if nat_eq bundle.kind 2
    then item_by (plain_named bundle.ty) (text_at (Some name_limit)) c rest
    else item_by plain_import_item item_at c rest

-- an import of a bundle, as an import on its own
abbrev pub import_of : (bundle : PlainImport) → PlainImportItem → PlainImport
import_of bundle item = if nat_eq item.fault.kind 0 then record no_import {
  consumed = item.consumed;
  module_name = bundle.module_name;
  name = item.name;
  ty = item.ty;
  count = 1;
} else record no_import { fault = item.fault }

abbrev pub of_bundle : StoredImports → Option PlainImportItem × StoredItems → Option PlainImport × StoredImports
of_bundle c (None, d) = (None, record c { bundled = d })
of_bundle c (Some item, d) = (Some (import_of c.bundle item), record c { bundled = d })

-- the next import of the bundle
abbrev pub within : List ℕ → StoredImports → Option PlainImport × StoredImports
within bytes c = of_bundle c (bundled_by c.bundle c.bundled (drop c.bundled.position bytes))

-- an import of the section, or what comes next in a bundle
abbrev pub of_section : (bundled : StoredImports → Option PlainImport × StoredImports) → StoredImports
    → Option PlainImport × StoredItems → Option PlainImport × StoredImports
of_section bundled c (None, d) = (None, record c { items = d })
of_section bundled c (Some one, d) = if nat_eq one.kind 0 then (Some one, record c { items = d }) else
    bundled (entered one (record c { items = d }))

-- what one call returns, if it passes no more than this many bundles without imports
abbrev pub flat_by : ℕ → List ℕ → StoredImports → Option PlainImport × StoredImports
flat_by zero bytes c = (None, c)
flat_by (suc n) bytes c = if is_within c then within bytes c else
    of_section (λ d. flat_by n bytes d) c (next_by plain_import bundle_at bytes c.items)

-- | the imports of a section one by one; a cursor within a bundle [`within`, `entered`] <the proposal for compact
--   imports>
-- what one call returns: it can't pass more bundles than are left
abbrev pub next_flat : List ℕ → StoredImports → Option PlainImport × StoredImports
next_flat bytes c = flat_by (c.items.remaining + 1) bytes c
