-- The bytes of names. Core specification, Appendix, Custom Sections, Name Section, Name Maps and Subsections.
use Rattle.std.specs.Prelude.{◌≡◌, ℕ, ◌+◌, ◌<◌, ◌^◌, List, [], ◌∷◌, ◌++◌, length, map, All, Option, None, Result, Ok}
use Rattle.std.specs.Iterator.{Drains}
use Rattle.wasm_base.specs.Ascending.{Ascending, AscendsFrom, none_given}
use Rattle.wasm_base.specs.Item.{ReadsAs}
use Rattle.wasm_base.specs.Section.{Items, ItemsOf, SameItems, Section, all_items, as_read, item_or_fault}
use Rattle.wasm_base.specs.Section.{most_items, section_after}
use Rattle.wasm_base.specs.Window.{place, range_of}
use Rattle.wasm_base.specs.declared.error.Error.{Error}
use Rattle.wasm_custom.specs.Names.{NamingParts, direct, index_of, module_name, name_in, naming_at, naming_parts}
use Rattle.wasm_custom.specs.Names.{skipped_naming_at}
use Rattle.wasm_custom.specs.declared.names.IndirectNaming.{IndirectNaming}
use Rattle.wasm_custom.specs.declared.names.Naming.{Naming}
use Rattle.wasm_encode.specs.Lists.{IsList, list_bytes, list_placed}
use Rattle.wasm_encode.specs.Names.{name_bytes}
use Rattle.wasm_encode.specs.Numbers.{unsigned_bytes}
use Rattle.wasm_encode.specs.Sections.{SectionFits, content_bytes}
use Rattle.wasm_encode.specs.Subsections.{IsSubsection, content_section, content_window}
use Rattle.wasm_encode.specs.Texts.{TextFits}

-- | the bytes of an entry of a name map: an index and a name; of an indirect one: an index, and names that are copied;
--   whether they fit [`indirect_bytes`; `NamingFits`, `IndirectFits`; `indirect_placed`] <Appendix, Name Section, Name
--   Maps, Indirect Name Maps>
-- an index and its name
unfoldable pub naming_bytes : NamingParts → List ℕ
naming_bytes n = unsigned_bytes n.index ++ name_bytes n.name

pub record NamingFits (n : NamingParts) : Type 0 where
  pub index : n.index < 2 ^ 32
  pub name : TextFits n.name
  pub short : length (naming_bytes n) < 2 ^ 32

-- the names of an entry of an indirect name map, as a list
abbrev pub names_of : IndirectNaming → Section
names_of x = section_after x.names.entries.reader x.names.entries.count

-- The iterator over the names of an entry has not begun.
abbrev pub HasNotBegun : IndirectNaming → Type 0
HasNotBegun x = most_items x.names.entries ≡ x.names.entries.count + 1

-- an index, and its names, whose bytes are copied
unfoldable pub indirect_bytes : IndirectNaming → List ℕ
indirect_bytes x = unsigned_bytes x.index ++ list_bytes (names_of x)

pub record IndirectFits (x : IndirectNaming) : Type 0 where
  pub index : x.index < 2 ^ 32
  pub whole : HasNotBegun x
  pub names : IsList skipped_naming_at (names_of x)
  pub short : length (indirect_bytes x) < 2 ^ 32

-- the entry as it is read with these features at an offset: the window of its names is there
abbrev pub indirect_placed : (features offset : ℕ) → IndirectNaming → IndirectNaming
indirect_placed features offset x = record {
  index = x.index;
  names = none_given (all_items (list_placed features (offset + length (unsigned_bytes x.index)) (names_of x)));
}

-- ---- subsections

-- | the subsection of a module's name is read as that name <Appendix, Name Section, Module Names>
-- The subsection of a module's name is read as a subsection with id 0, and that as the name.
pub record ModuleNameBack (features offset : ℕ) (text : List ℕ) : Type 0 where
  pub frame : IsSubsection features offset 0 (name_bytes text)
  pub name : name_in 0 (content_window features offset (name_bytes text))
      ≡ Ok (module_name text (range_of (content_window features offset (name_bytes text))))

-- the ids of the subsections that are name maps: the names of functions, types, tables, memories, globals, element
-- segments, data segments and tags
abbrev pub map_ids : List ℕ
map_ids = 1 ∷ 4 ∷ 5 ∷ 6 ∷ 7 ∷ 8 ∷ 9 ∷ 11 ∷ []

-- the content of a name map
abbrev pub map_content : List Naming → List ℕ
map_content xs = content_bytes (λ x. naming_bytes (naming_parts x)) xs

abbrev pub MapFits : List Naming → Type 0
MapFits xs = SectionFits (λ x. naming_bytes (naming_parts x)) (λ x. NamingFits (naming_parts x)) xs

-- the section that the content of a name map is, if its subsection is at an offset
abbrev pub map_section : (features offset : ℕ) → List Naming → Section
map_section features offset xs = content_section features offset (λ x. naming_bytes (naming_parts x)) xs

-- entries as they are returned
abbrev pub all_given : {X : Type 0} → List X → List (Result X Error)
all_given xs = map (λ x. Ok x) xs

-- | entries whose indices ascend <Appendix, Name Section, Name Maps>
-- The indices of entries ascend strictly.
abbrev pub IsAscending : List Naming → Type 0
IsAscending xs = AscendsFrom index_of None (all_given xs)

-- | the subsection of a name map is read as exactly its entries, and iterating over it returns them if their indices
--   ascend [`map_ids`, `MapFits`] <Appendix, Name Section, Name
--   Maps>
-- The subsection of a name map is read as its id and a window, this for each id of a map as the map, and the map as
-- exactly these entries, with nothing after them.
-- If their indices ascend, iterating over the map, by the relation that each call of `next` meets, returns exactly
-- them.
pub record MapBack (next : Ascending Items → Option (Result Naming Error) → Ascending Items → Type 0)
    (features offset : ℕ) (xs : List Naming) : Type 0 where
  pub frame : (id : ℕ) → id < 128 → IsSubsection features offset id (map_content xs)
  pub maps : All (λ id. name_in id (content_window features offset (map_content xs))
      ≡ Ok (direct id (none_given (all_items (map_section features offset xs))))) map_ids
  pub entries : ItemsOf (ReadsAs naming_parts naming_at) (length xs) (place (map_section features offset xs).reader)
      (map as_read xs)
  pub given : IsAscending xs → (given : List (Result Naming Error))
      → Drains next (none_given (all_items (map_section features offset xs))) given
      → SameItems (ReadsAs naming_parts naming_at) (map item_or_fault given) (map as_read xs)
