-- The names of a module's functions, as a printer wants them.
use Rattle.std.specs.Borrow.{Bor}
use Rattle.std.specs.Prelude.{ℕ, List, [], ◌∷◌, ◌++◌, length, map, set, nat_lt, nat_eq, Vec}
use Rattle.std.specs.Prelude.{Option, Some, None, Result, Ok, Err, codes, bytes_eq, if◌then◌else◌}
use Rattle.wasm_base.specs.Ascending.{Ascending, is_above}
use Rattle.wasm_base.specs.FaultAt.{FaultAt}
use Rattle.wasm_base.specs.Section.{Items}
use Rattle.wasm_base.specs.Window.{Place, place}
use Rattle.wasm_base.specs.declared.error.Error.{Error}
use Rattle.wasm_custom.specs.Names.{NamingParts, naming_at, NameParts, direct}
use Rattle.wasm_custom.specs.Names.{id_of_parts, name_in}
use Rattle.wasm_items.specs.Imports.{ImportParts}
use Rattle.wasm_items.specs.declared.imports.TypeRef.{TypeRef}
use Rattle.wasm_items.specs.declared.imports.TypeRef.TheVariants as types
use Rattle.wasm_grammar.specs.Content.{fault}
use Rattle.wasm_grammar.specs.Reading.{Report, counted, code_entry, custom_section, stream_end}
use Rattle.wasm_examples.specs.Customs.{data_place}
use Rattle.wasm_examples.specs.Folding.{IsFold, items_at, subsections_at, with_each}
use Rattle.wasm_examples.specs.Imported.{imports_in}
use Rattle.wasm_grammar.specs.Ids.{import_id}

-- ---- the names so far

-- of each function its name, if it has one: those that are imported first, and then the module's own
abbrev pub EachName : Type 0
EachName = List (Option (List ℕ))

abbrev pub text_of : Option (Bor (List ℕ)) → Option (List ℕ)
text_of (Some name) = Some name.now
text_of None = None

abbrev pub texts_of : {A : Type 0} → Vec (Option (Bor (List ℕ))) A → EachName
texts_of list = map text_of list.items

-- one function more, which has no name
abbrev pub one_more : EachName → EachName
one_more names = names ++ None ∷ []

-- with the name of a function that is there
abbrev pub with_name : EachName → NamingParts → EachName
with_name names x = if nat_lt x.index (length names) then set names x.index (Some x.name) else names

-- ---- names of a section

-- of these, each whose index is above that of the last one taken, in order; those that can't be read are skipped
abbrev pub ascending : {T : Type 0} → (T → ℕ) → (last : Option ℕ) → List (Result T FaultAt) → List T
ascending index last [] = []
ascending index last (Ok x ∷ later) = if is_above last (index x) then x ∷ ascending index (Some (index x)) later else
    ascending index last later
ascending index last (Err f ∷ later) = ascending index last later

-- names with what these add, in order
abbrev pub with_all : {T : Type 0} → (EachName → T → EachName) → EachName → List T → EachName
with_all add names [] = names
with_all add names (x ∷ later) = with_all add (add names x) later

-- the remaining entries of a map
abbrev pub entries_of : Ascending Items → List (Result NamingParts FaultAt)
entries_of map = if map.entries.ended then [] else items_at naming_at map.entries.left (place map.entries.reader)

-- the remaining names of a map
abbrev pub names_of_map : EachName → Ascending Items → EachName
names_of_map names map = with_all with_name names (ascending (λ x. x.index) map.last (entries_of map))

-- a subsection of names: those of functions have the id 1
abbrev pub with_subsection : EachName → NameParts → EachName
with_subsection names (direct id entries) = if nat_eq id 1 then names_of_map names entries else names
with_subsection names other = names

-- the names of the section whose data begin at a place
abbrev pub names_of_section : EachName → Place → EachName
names_of_section names p = with_all with_subsection names (ascending id_of_parts None (subsections_at name_in p))

-- ---- one part of a module more

-- an import, if it is a function
abbrev pub add_imported_name : EachName → TypeRef → EachName
add_imported_name names (types.Func index) = one_more names
add_imported_name names (types.FuncExact index) = one_more names
add_imported_name names other = names

-- the imports of a section, one by one
abbrev pub add_imported : EachName → List (Result ImportParts FaultAt) → Result EachName FaultAt
add_imported = with_each (λ names i. add_imported_name names i.ty)

-- the names of a custom section, if it is the name section
abbrev pub with_custom : EachName → (name : List ℕ) → Place → EachName
with_custom names name p = if bytes_eq name (codes "name") then names_of_section names p else names

-- | the name of each function of a module, by its name sections [`names_of_section`, `AreNames`] <Appendix, Custom
--   Sections, Name Section>
-- what a part of the module adds: functions that are imported, a body, names
abbrev pub names_after : EachName → Report → Result EachName FaultAt
names_after names (counted id count window) = if nat_eq id import_id then
    add_imported names (imports_in count window) else Ok names
names_after names (code_entry body) = Ok (one_more names)
names_after names (custom_section name data_offset window) = Ok (with_custom names name (data_place window data_offset))
names_after names (stream_end (fault f)) = Err f
names_after names other = Ok names

-- ---- what calls return

-- These are the names of the functions of the module that the stream is, by its reading with all features from offset
-- 0; or the module has this fault; or memory was refused.
abbrev pub AreNames : {A : Type 0} → List ℕ → Result (Vec (Option (Bor (List ℕ))) A) Error → Type 0
AreNames = IsFold texts_of names_after []
