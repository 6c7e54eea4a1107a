-- What a module imports.
use Rattle.std.specs.Prelude.{ℕ, Bool, true, false, List, [], ◌∷◌, map, Result, Ok, Err}
use Rattle.wasm_base.specs.FaultAt.{FaultAt}
use Rattle.wasm_base.specs.Number.{unsigned_at}
use Rattle.wasm_base.specs.Outcome.{Outcome}
use Rattle.wasm_base.specs.Section.{Section}
use Rattle.wasm_base.specs.Window.{Window, Place, place}
use Rattle.wasm_base.specs.declared.fault.NumberKind.TheVariants.{VarU32}
use Rattle.wasm_items.specs.Flattened.{flattened, import_alone}
use Rattle.wasm_items.specs.Imports.{ImportParts}
use Rattle.wasm_items.specs.declared.imports.TypeRef.{TypeRef}
use Rattle.wasm_items.specs.declared.imports.TypeRef.TheVariants.{Memory}

-- whether an import with a type like this, before others of which this is known, is the memory that is looked for
abbrev pub or_memory : TypeRef → Result Bool FaultAt → Result Bool FaultAt
or_memory (Memory ty) later = Ok true
or_memory other later = later

-- | whether a module imports a memory [`imports_of`] <Import Section>
-- whether there is a memory among imports before their first fault, or that fault
abbrev pub memory_in : List (Result ImportParts FaultAt) → Result Bool FaultAt
memory_in [] = Ok false
memory_in (Ok one ∷ later) = or_memory one.ty (memory_in later)
memory_in (Err e ∷ later) = Err e

-- where the items of a section begin: after its count
abbrev pub after_number : Outcome ℕ → Place → Place
after_number (Ok x) p = x.1
after_number (Err f) p = p

abbrev pub items_place : Window → Place
items_place w = after_number (unsigned_at VarU32 (place w)) (place w)

-- the imports of a section, in order
abbrev pub imports_of : Section → List (Result ImportParts FaultAt)
imports_of s = map import_alone (flattened s.count (place s.reader))

-- those of a section that is counted, by its count and its window
abbrev pub imports_in : (count : ℕ) → Window → List (Result ImportParts FaultAt)
imports_in count window = map import_alone (flattened count (items_place window))
