-- The items that come before others in their index spaces, and the numbers of those that a dump shows. Core
-- specification, Syntax, Modules, Indices: the imports of a space come before what the module itself defines.
use Rattle.std.specs.Prelude.{ℕ, List, [], ◌∷◌}
use Rattle.std.specs.Prelude.{nat_eq, Result, Ok, Err, if◌then◌else◌}
use Rattle.wasm_base.specs.FaultAt.{FaultAt}
use Rattle.wasm_base.specs.Number.{unsigned_at}
use Rattle.wasm_base.specs.Outcome.{Outcome}
use Rattle.wasm_base.specs.Window.{Window, Place, place}
use Rattle.wasm_base.specs.declared.fault.NumberKind.TheVariants.{VarU32}
use Rattle.wasm_dumper.specs.declared.counts.Counts.{Counts}
use Rattle.wasm_grammar.specs.Ids.{import_id}
use Rattle.wasm_grammar.specs.Reading.{Report, counted, code_entry, Event}
use Rattle.wasm_items.specs.Flattened.{flattened}
use Rattle.wasm_items.specs.Imports.{ImportParts}
use Rattle.wasm_items.specs.declared.imports.TypeRef.{TypeRef}
use Rattle.wasm_items.specs.declared.imports.TypeRef.TheVariants as types
use Rattle.wasm_output.specs.Numbers.{Number, more}
use Rattle.wasm_output.specs.declared.numbers.Space.{Space}
use Rattle.wasm_output.specs.declared.numbers.Space.TheVariants.{Functions, Tables, Memories, Tags}
use Rattle.wasm_output.specs.declared.numbers.Space.TheVariants.{Globals}

-- no items yet
abbrev pub no_counts : Counts
no_counts = record { functions = 0; tables = 0; memories = 0; tags = 0; globals = 0; bodies = 0 }

-- | how many imports and bodies came before; what each report adds to that [`after`, `with_imports`] <Import Section,
--   Code Section, Indices>
-- how many imports there were of an index space; nothing of the others can be imported
abbrev pub count_of : Counts → Space → ℕ
count_of c Functions = c.functions
count_of c Tables = c.tables
count_of c Memories = c.memories
count_of c Tags = c.tags
count_of c Globals = c.globals
count_of c other = 0

-- one import more of an index space; the bodies come after the imported functions
abbrev pub with_one : Counts → Space → Counts
with_one c Functions = record c { functions = more c.functions 1; bodies = more c.bodies 1 }
with_one c Tables = record c { tables = more c.tables 1 }
with_one c Memories = record c { memories = more c.memories 1 }
with_one c Tags = record c { tags = more c.tags 1 }
with_one c Globals = record c { globals = more c.globals 1 }
with_one c other = c

-- the index space of what is imported
abbrev pub space_of : TypeRef → Space
space_of (types.Func index) = Functions
space_of (types.FuncExact index) = Functions
space_of (types.Table ty) = Tables
space_of (types.Memory ty) = Memories
space_of (types.Global ty) = Globals
space_of (types.Tag ty) = Tags

-- imports, each with its offset, or the fault in its place
abbrev pub Found : Type 0
Found = Result (ℕ × ImportParts) FaultAt

abbrev pub with_import : Counts → Found → Counts
with_import c (Ok x) = with_one c (space_of x.1.ty)
with_import c (Err f) = c

abbrev pub with_imports : Counts → List Found → Counts
with_imports c [] = c
with_imports c (x ∷ later) = with_imports (with_import c x) later

-- where the items of a section begin: after its count
abbrev pub after_number : Outcome ℕ → Place → Place
after_number (Ok x) p = x.1
after_number (Err f) p = p

-- the imports of an import section
abbrev pub imports_in : (count : ℕ) → Window → List Found
imports_in count w = flattened count (after_number (unsigned_at VarU32 (place w)) (place w))

-- the counts after this report
abbrev pub after : Counts → Report → Counts
after c (counted id count window) = if nat_eq id import_id then with_imports c (imports_in count window) else c
after c (code_entry window) = record c { bodies = more c.bodies 1 }
after c other = c

abbrev pub after_all : Counts → List Event → Counts
after_all c [] = c
after_all c (e ∷ events) = after_all (after c e.report) events

-- the number of the function that a body is of, which is in the line of the body
abbrev pub numbers_in_line : Counts → Report → List Number
numbers_in_line c (code_entry window) = record { space = Functions; index = c.bodies } ∷ []
numbers_in_line c other = []
