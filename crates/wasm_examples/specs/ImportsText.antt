-- The imports of a module as text: a line for each.
use Rattle.std.specs.Prelude.{List, [], ◌++◌, ℕ, codes, nat_eq, Result, Ok, Err, String}
use Rattle.std.specs.Prelude.{string_bytes, if◌then◌else◌}
use Rattle.wasm_base.specs.FaultAt.{FaultAt}
use Rattle.wasm_base.specs.declared.error.Error.{Error}
use Rattle.wasm_grammar.specs.Content.{fault}
use Rattle.wasm_grammar.specs.Ids.{import_id}
use Rattle.wasm_grammar.specs.Reading.{Report, counted, stream_end}
use Rattle.wasm_items.specs.Imports.{ImportParts}
use Rattle.wasm_examples.specs.Folding.{IsFold, with_each}
use Rattle.wasm_examples.specs.Imported.{imports_in}

-- the line of an import: the module that it is from, a blank, and its name
abbrev pub import_line : ImportParts → List ℕ
import_line i = i.from ++ (codes " " ++ (i.name ++ codes "\n"))

-- a text and the lines of imports, up to their first fault
abbrev pub with_lines : List ℕ → List (Result ImportParts FaultAt) → Result (List ℕ) FaultAt
with_lines = with_each (λ text i. text ++ import_line i)

-- a text and what a part of the stream adds to it
abbrev pub with_part : List ℕ → Report → Result (List ℕ) FaultAt
with_part text (counted id count window) = if nat_eq id import_id then
    with_lines text (imports_in count window) else Ok text
with_part text (stream_end (fault f)) = Err f
with_part text other = Ok text

-- This is the text of the stream's imports, by its reading with all features from offset 0; or the fault at which that
-- stops; or memory was refused.
abbrev pub IsImportsText : {A : Type 0} → List ℕ → Result (String A) Error → Type 0
IsImportsText = IsFold string_bytes with_part []
