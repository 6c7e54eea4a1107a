-- The sections of a module: their ids, their names, and their order. Core specification, Binary format, Modules,
-- Sections.
use Rattle.std.specs.Prelude.{ℕ, List, [], ◌∷◌, Option, Some, None, codes, nat_eq, bytes_eq, slice_get}
use Rattle.std.specs.List.{position_from}

abbrev pub custom_id : ℕ
custom_id = 0

abbrev pub type_id : ℕ
type_id = 1

abbrev pub import_id : ℕ
import_id = 2

abbrev pub function_id : ℕ
function_id = 3

abbrev pub table_id : ℕ
table_id = 4

abbrev pub memory_id : ℕ
memory_id = 5

abbrev pub global_id : ℕ
global_id = 6

abbrev pub export_id : ℕ
export_id = 7

abbrev pub start_id : ℕ
start_id = 8

abbrev pub element_id : ℕ
element_id = 9

abbrev pub code_id : ℕ
code_id = 10

abbrev pub data_id : ℕ
data_id = 11

abbrev pub data_count_id : ℕ
data_count_id = 12

abbrev pub tag_id : ℕ
tag_id = 13

-- | the ids of sections with their names; the order in which sections come; the place of an id in that order, or none
--   [`order`, `place_of`, `name_of`, `id_named`] <Modules, Sections>
-- their words in a listing, by id: the standard's names without "section", but for the data count section
abbrev pub names : List (List ℕ)
names =
    codes "custom" ∷ codes "type" ∷ codes "import" ∷ codes "function" ∷ codes "table" ∷ codes "memory" ∷
    codes "global" ∷ codes "export" ∷ codes "start" ∷ codes "element" ∷ codes "code" ∷ codes "data" ∷
    codes "datacount" ∷ codes "tag" ∷ []

-- the word for the sections with this id
abbrev pub name_of : ℕ → Option (List ℕ)
name_of id = slice_get names id

-- the id of the sections with this word
abbrev pub id_named : List ℕ → Option ℕ
id_named name = position_from (bytes_eq name) 0 names

-- the order in which sections come; custom sections may come anywhere
abbrev pub order : List ℕ
order =
    type_id ∷ import_id ∷ function_id ∷ table_id ∷ memory_id ∷ tag_id ∷ global_id ∷ export_id ∷ start_id ∷ element_id ∷
    data_count_id ∷ code_id ∷ data_id ∷ []

abbrev pub or_none : Option ℕ → ℕ
or_none None = 0
or_none (Some place) = place

-- the place in that order of the sections with this id, counted from 1, or 0: they have none
abbrev pub place_of : ℕ → ℕ
place_of id = or_none (position_from (nat_eq id) 1 order)
