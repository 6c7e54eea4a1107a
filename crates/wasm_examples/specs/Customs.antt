-- The custom sections of a stream, with their sizes.
use Rattle.std.specs.Borrow.{Bor}
use Rattle.std.specs.Prelude.{◌≡◌, ℕ, ◌-◌, List, [], ◌∷◌, length, flat_map, map, string_bytes, Vec, Result, Ok, Err}
use Rattle.wasm_base.specs.Window.{Window, Place, place, advanced}
use Rattle.wasm_base.specs.declared.error.Error.{Error}
use Rattle.wasm_grammar.specs.Reading.{Report, custom_section, Event}
use Rattle.wasm_feed.specs.Pieces.{joined}
use Rattle.wasm_examples.specs.Visits.{ReadsAll, ReadsToFault}
use Rattle.wasm_examples.specs.declared.customs.CustomSize.{CustomSize}

-- where the data of a custom section begin, in the section's window
abbrev pub data_place : Window → (data_offset : ℕ) → Place
data_place window data_offset = advanced (data_offset - (place window).offset) (place window)

-- the name of a custom section, if one is reported
abbrev pub custom_names : Report → List (List ℕ)
custom_names (custom_section name data_offset window) = name ∷ []
custom_names other = []

-- the same with the bytes that it takes
abbrev pub customs_of : Event → List (List ℕ × ℕ)
customs_of e = map (λ name. (name, length e.consumed)) (custom_names e.report)

-- names and sizes in a list
abbrev pub sizes_in : {A : Type 0} → Vec CustomSize A → List (List ℕ × ℕ)
sizes_in list = map (λ c. (string_bytes c.name, c.size)) list.items

-- The list has the custom sections of the stream in these chunks, in order, wherever it is cut; or the stream
-- stops at this fault; or an allocation failed.
abbrev pub ListsCustoms : {A : Type 0} (pieces : List (Bor (List ℕ))) (features : ℕ) → Result (Vec CustomSize A) Error
    → Type 0
ListsCustoms pieces features (Ok list) =
    ReadsAll (λ events. sizes_in list ≡ flat_map customs_of events) (joined pieces) features
ListsCustoms pieces features (Err e) = ReadsToFault (λ events. Unit {0}) (joined pieces) features e
