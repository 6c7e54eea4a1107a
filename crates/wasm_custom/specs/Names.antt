-- Names. Core specification, Appendix, Custom Sections, Name Section, which has the subsections of the module,
-- functions, locals, types, fields and tags. Those of labels, tables, memories, globals, element and data segments are
-- of the extended name section proposal; those of parameters are this project's profile.
use Rattle.std.specs.declared.ops.Range.{Range}
use Rattle.std.specs.Prelude.{ℕ, ◌≤◌, List, [], ◌∷◌, length, Some, None, Result, Ok}
use Rattle.wasm_base.specs.Ascending.{Ascending, none_given}
use Rattle.wasm_base.specs.Ending.{end_at}
use Rattle.wasm_base.specs.FaultAt.{FaultAt}
use Rattle.wasm_base.specs.Inner.{inner_section_at}
use Rattle.wasm_base.specs.Leading.{lookup_or}
use Rattle.wasm_base.specs.Name.{name_limit, text_at}
use Rattle.wasm_base.specs.Number.{unsigned_at}
use Rattle.wasm_base.specs.Outcome.{Outcome, ◌>>=◌}
use Rattle.wasm_base.specs.Section.{Items, all_items, section_in}
use Rattle.wasm_base.specs.Skip.{skipped_name_at}
use Rattle.wasm_base.specs.Window.{Window, Place, place, rest_range}
use Rattle.wasm_base.specs.declared.fault.Fault.TheVariants.{NameTrailing}
use Rattle.wasm_base.specs.declared.fault.NumberKind.TheVariants.{VarU32}
use Rattle.wasm_custom.specs.declared.names.IndirectNaming.{IndirectNaming}
use Rattle.wasm_custom.specs.declared.names.Name.{Name}
use Rattle.wasm_custom.specs.declared.names.Name.TheVariants as Names
use Rattle.wasm_custom.specs.declared.names.Naming.{Naming}

-- an index and the bytes of its name
pub record NamingParts : Type 0 where
  pub index : ℕ
  pub name : List ℕ

abbrev pub index_of : Naming → ℕ
index_of naming = naming.index

abbrev pub index_of_indirect : IndirectNaming → ℕ
index_of_indirect naming = naming.index

abbrev pub naming_parts : Naming → NamingParts
naming_parts naming = record { index = naming.index; name = naming.name.now }

-- | an index and its name; an index and the names below it; the entries of a window, of which none was returned yet;
--   a name no longer than what may be skipped [`indirect_naming_at`, `entries_in`, `IsShortNaming`] <Appendix, Name
--   Section, Name Maps, Indirect Name Maps>
-- an index and its name (Name Maps)
unfoldable pub naming_at : Place → Outcome NamingParts
naming_at p = do
  index ← unsigned_at VarU32 p
  name ← text_at None index.1
  Ok (record { index = index.0; name = name.0 }, name.1)

-- the place after an index and its skipped name, which isn't checked to be UTF-8
unfoldable pub skipped_naming_at : Place → Outcome (Unit {0})
skipped_naming_at p = do
  index ← unsigned_at VarU32 p
  skipped_name_at index.1

-- Its name is within the limit of skipped names.
abbrev pub IsShortNaming : Naming → Type 0
IsShortNaming naming = length naming.name.now ≤ name_limit

-- an index and its name map, whose entries are skipped (Indirect Name Maps)
unfoldable pub indirect_naming_at : Place → Outcome IndirectNaming
indirect_naming_at p = do
  index ← unsigned_at VarU32 p
  names ← inner_section_at skipped_naming_at index.1
  Ok (record { index = index.0; names = none_given (all_items names.0) }, names.1)

-- the names of a window, direct or indirect: a count and as many names, none of them returned yet
unfoldable pub entries_in : Window → Result (Ascending Items) FaultAt
entries_in w = do
  section ← section_in w
  Ok (none_given (all_items section))

-- the offset of the next name, and of the next subsection
abbrev pub offset_of_entry : Items → ℕ
offset_of_entry entries = (place entries.reader).offset

abbrev pub offset_of_subsection : Window → ℕ
offset_of_subsection subsections = (place subsections).offset

-- a subsection of names, with the bytes of its text
pub data NameParts : Type 0 where
  module_name : (text : List ℕ) (range : Range ℕ) → NameParts
  direct : (id : ℕ) (entries : Ascending Items) → NameParts
  indirect : (id : ℕ) (entries : Ascending Items) → NameParts
  unknown : (id : ℕ) (contents : List ℕ) (range : Range ℕ) → NameParts

abbrev pub name_parts : Name → NameParts
name_parts (Names.Module name range) = module_name name.now range
name_parts (Names.Function names) = direct 1 names
name_parts (Names.Local names) = indirect 2 names
name_parts (Names.Label names) = indirect 3 names
name_parts (Names.Types names) = direct 4 names
name_parts (Names.Table names) = direct 5 names
name_parts (Names.Memory names) = direct 6 names
name_parts (Names.Global names) = direct 7 names
name_parts (Names.Element names) = direct 8 names
name_parts (Names.Data names) = direct 9 names
name_parts (Names.Field names) = indirect 10 names
name_parts (Names.Tag names) = direct 11 names
name_parts (Names.Parameter names) = indirect 12 names
name_parts (Names.TagParameter names) = indirect 13 names
name_parts (Names.Unknown id contents range) = unknown id contents.now range

-- the id of a subsection of names
abbrev pub id_of_parts : NameParts → ℕ
id_of_parts (module_name text range) = 0
id_of_parts (direct id entries) = id
id_of_parts (indirect id entries) = id
id_of_parts (unknown id contents range) = id

abbrev pub id_of : Name → ℕ
id_of name = id_of_parts (name_parts name)

-- | the name of the module, and nothing after it; a subsection of names, by its id; the id of a subsection
--   [`name_in`, `id_of`] <Appendix, Name Section; extended name section; this project>
-- the name of the module, without trailing bytes (Module Names)
unfoldable pub module_name_in : Window → Result NameParts FaultAt
module_name_in w = do
  name ← text_at (Some name_limit) (place w)
  end ← end_at NameTrailing name.1
  Ok (module_name name.0 (rest_range w))

abbrev pub direct_in : (id : ℕ) → Window → Result NameParts FaultAt
direct_in id w = do
  entries ← entries_in w
  Ok (direct id entries)

abbrev pub indirect_in : (id : ℕ) → Window → Result NameParts FaultAt
indirect_in id w = do
  entries ← entries_in w
  Ok (indirect id entries)

-- a subsection of names, by its id (Subsections)
unfoldable pub name_in : (id : ℕ) → Window → Result NameParts FaultAt
name_in id = lookup_or (λ w. Ok (unknown id (place w).rest (rest_range w)))
    ((0, module_name_in) ∷ (1, direct_in 1) ∷ (2, indirect_in 2) ∷ (3, indirect_in 3) ∷ (4, direct_in 4)
    ∷ (5, direct_in 5) ∷ (6, direct_in 6) ∷ (7, direct_in 7) ∷ (8, direct_in 8) ∷ (9, direct_in 9)
    ∷ (10, indirect_in 10) ∷ (11, direct_in 11) ∷ (12, indirect_in 12) ∷ (13, indirect_in 13) ∷ []) id
