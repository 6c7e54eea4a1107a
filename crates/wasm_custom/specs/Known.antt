-- The data of known custom sections, by the section's name. Core specification, Appendix, Custom Sections, and the
-- tool conventions; that malformed data is unknown is this project's profile.
use Rattle.std.specs.Prelude.{ℕ, Bool, ◌||◌, List, [], ◌∷◌, Result, Ok, Err, codes, bytes_eq, nat_eq}
use Rattle.std.specs.Prelude.{if◌then◌else◌}
use Rattle.std.specs.List.{starts_with}
use Rattle.wasm_base.specs.Ascending.{Ascending, none_given}
use Rattle.wasm_base.specs.FaultAt.{FaultAt}
use Rattle.wasm_base.specs.Section.{Section, section_in}
use Rattle.wasm_base.specs.Window.{Window, place, whole_window}
use Rattle.wasm_custom.specs.Coredumps.{InstanceParts, StackParts, name_section_in, modules_parts, modules_in}
use Rattle.wasm_custom.specs.Coredumps.{instances_parts, instances_in, stack_parts, stack_in}
use Rattle.wasm_custom.specs.Custom.{Custom}
use Rattle.wasm_custom.specs.Linking.{LinkingSection, linking_in}
use Rattle.wasm_custom.specs.Reloc.{reloc_section_in}
use Rattle.wasm_custom.specs.declared.known.KnownCustom.{KnownCustom}
use Rattle.wasm_custom.specs.declared.known.KnownCustom.TheVariants as Knowns
use Rattle.wasm_custom.specs.declared.reloc.RelocSectionReader.{RelocSectionReader}

-- what a section is, with the bytes of its texts
pub data Known : Type 0 where
  names : Ascending Window → Known
  branch_hints : Section → Known
  producers : Section → Known
  dynamic_linking : Window → Known
  core_dump : (name : List ℕ) → Known
  core_modules : List (List ℕ) → Known
  core_instances : List InstanceParts → Known
  core_stack : StackParts → Known
  linking : LinkingSection → Known
  relocations : RelocSectionReader → Known
  unknown : Known

abbrev pub known_parts : {A : Type 0} → KnownCustom A → Known
known_parts (Knowns.Name reader) = names reader
known_parts (Knowns.BranchHints functions) = branch_hints functions
known_parts (Knowns.Producers fields) = producers fields
known_parts (Knowns.Dylink0 subsections) = dynamic_linking subsections
known_parts (Knowns.CoreDump section) = core_dump section.name.now
known_parts (Knowns.CoreDumpStack section) = core_stack (stack_parts section)
known_parts (Knowns.CoreDumpInstances section) = core_instances (instances_parts section)
known_parts (Knowns.CoreDumpModules section) = core_modules (modules_parts section)
known_parts (Knowns.Linking section) = linking section
known_parts (Knowns.Reloc section) = relocations section
known_parts Knowns.Unknown = unknown

-- data that was read, or the fault of its reader
abbrev pub read_as : {X : Type 0} → (X → Known) → Result X FaultAt → Result Known FaultAt
read_as known_as (Ok x) = Ok (known_as x)
read_as known_as (Err f) = Err f

abbrev pub branch_hints_in : Window → Result Known FaultAt
branch_hints_in w = read_as branch_hints (section_in w)

abbrev pub producers_in : Window → Result Known FaultAt
producers_in w = read_as producers (section_in w)

abbrev pub core_dump_in : Window → Result Known FaultAt
core_dump_in w = read_as core_dump (name_section_in (place w))

abbrev pub core_modules_in : Window → Result Known FaultAt
core_modules_in w = read_as core_modules (modules_in (place w))

abbrev pub core_instances_in : Window → Result Known FaultAt
core_instances_in w = read_as core_instances (instances_in (place w))

abbrev pub core_stack_in : Window → Result Known FaultAt
core_stack_in w = read_as core_stack (stack_in (place w))

abbrev pub linking_section_in : Window → Result Known FaultAt
linking_section_in w = read_as linking (linking_in w)

abbrev pub relocations_in : Window → Result Known FaultAt
relocations_in w = read_as relocations (reloc_section_in w)

-- | which known section has a name; what a window is as its data: the reader of that section, or its fault; what a
--   custom section is, which is unknown at a fault [`read_by_name`, `reading_of`, `known_of`] <Appendix, Custom
--   Sections; tool conventions; this project>
-- the known names, and what a window is as the data of a section with each name
abbrev pub readings : List (List ℕ × (Window → Result Known FaultAt))
readings =
    (codes "name", λ w. Ok (names (none_given w))) ∷ (codes "metadata.code.branch_hint", branch_hints_in)
    ∷ (codes "producers", producers_in) ∷ (codes "dylink.0", λ w. Ok (dynamic_linking w)) ∷ (codes "core", core_dump_in)
    ∷ (codes "coremodules", core_modules_in) ∷ (codes "coreinstances", core_instances_in)
    ∷ (codes "corestack", core_stack_in) ∷ (codes "linking", linking_section_in) ∷ []

-- what a window is as the data of a section with this name; relocation sections share a prefix
abbrev pub read_by_name : List (List ℕ × (Window → Result Known FaultAt)) → (name : List ℕ) → Window
    → Result Known FaultAt
read_by_name [] name w = if starts_with nat_eq name (codes "reloc.") then relocations_in w else Ok unknown
read_by_name (row ∷ rows) name w = if bytes_eq name row.0 then row.1 w else read_by_name rows name w

-- the data of a custom section, read as its name says, or the fault of the reader for its name
abbrev pub reading_of : Custom → Result Known FaultAt
reading_of section = read_by_name readings section.name (whole_window (place section.reader))

-- what was read, or else is unknown
abbrev pub or_unknown : Result Known FaultAt → Known
or_unknown (Ok known) = known
or_unknown (Err f) = unknown

-- what a custom section is: its data, read as its name says
abbrev pub known_of : Custom → Known
known_of section = or_unknown (reading_of section)

-- | which known sections own lists
-- whether reading a section with this name may allocate: the lists of core dumps are owned
abbrev pub owns_lists : (name : List ℕ) → Bool
owns_lists name =
    bytes_eq name (codes "coremodules") || bytes_eq name (codes "coreinstances") || bytes_eq name (codes "corestack")
