-- Items that C reads, each as a struct of plain numbers.
use Rattle.std.specs.Prelude.{ℕ, List, Ok, Err}
use Rattle.wasm_base.specs.Outcome.{Outcome}
use Rattle.wasm_base.specs.Window.{Place}
use Rattle.wasm_c_items.specs.Spans.{place_over, read_over}

-- an outcome whose value is a struct of plain numbers
abbrev pub made : {X T : Type 0} → (Outcome X → T) → Outcome X → Outcome T
made plain (Ok x) = Ok (plain (Ok x), x.1)
made plain (Err f) = Err f

-- reading an item as a struct of plain numbers
abbrev pub read_plainly : {X T : Type 0} → (Place → Outcome X → T) → (Place → Outcome X) → Place → Outcome T
read_plainly plain reading p = made (plain p) (reading p)

-- | an item where the caller's bytes begin, or its fault
-- the item at the start of these bytes, or its fault
abbrev pub item_over : {X T : Type 0} → ((from : ℕ) → Place → Outcome X → T) → (Place → Outcome X)
    → (features offset : ℕ) → List ℕ → T
item_over plain reading features offset bytes =
    plain offset (place_over features offset bytes) (read_over reading features offset bytes)
