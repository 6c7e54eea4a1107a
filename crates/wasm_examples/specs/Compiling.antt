-- A compiler that is passed the bodies of a stream that arrives in chunks.
use Rattle.std.specs.Borrow.{Bor}
use Rattle.std.specs.Prelude.{ℕ, List, [], ◌∷◌, flat_map, Result}
use Rattle.wasm_base.specs.Window.{Window}
use Rattle.wasm_base.specs.declared.error.Error.{Error}
use Rattle.wasm_grammar.specs.Reading.{Report, code_entry, Event}
use Rattle.wasm_examples.specs.Visits.{Visits, ReadsPieces}

-- the body that is reported, if one is
abbrev pub body_in : Report → List Window
body_in (code_entry window) = window ∷ []
body_in other = []

abbrev pub bodies_of : Event → List Window
bodies_of e = body_in e.report

-- | what a compiler receives of a stream; its custom sections with their sizes [`Customs.ListsCustoms`] <Code Section;
--   Custom Section>
-- It was passed all bodies of the stream in these chunks, wherever it is cut, and the result is bounded as that
-- of a visit; or those before the fault at which the stream stops; or an allocation failed.
abbrev pub CompilesStream : {C : Type 0} (compiles : C → Window → C → Type 0) (pieces : List (Bor (List ℕ)))
    (features : ℕ) (before : C) → Result ℕ Error → (after : C) → Type 0
CompilesStream compiles pieces features before result after =
    ReadsPieces (λ events. Visits compiles before (flat_map bodies_of events) after) pieces features result
