-- The instructions of a constant expression, one by one. Core specification, Binary format, Instructions, Expressions.
use Rattle.std.specs.Prelude.{◌≡◌, ℕ, zero, suc, ◌+◌, ◌==◌, Bool, true, false, List, [], ◌∷◌, ◌++◌, length, map}
use Rattle.std.specs.Prelude.{Option, IfSome, Result, Ok, Err, if◌then◌else◌}
use Rattle.std.specs.Iterator.{Drains}
use Rattle.std.specs.List.{list_any}
use Rattle.wasm_base.specs.FaultAt.{FaultAt}
use Rattle.wasm_base.specs.Hints.{NotOutOfMemory}
use Rattle.wasm_base.specs.Name.{byte_at}
use Rattle.wasm_base.specs.Outcome.{Outcome, ◌>>=◌}
use Rattle.wasm_base.specs.Section.{item_or_fault, as_read}
use Rattle.wasm_base.specs.Window.{Window, Place, place}
use Rattle.wasm_base.specs.declared.error.Error.{Error}
use Rattle.wasm_items.specs.Flattened.{GivesFirst}
use Rattle.wasm_items.specs.Init.{after_opcode}
use Rattle.wasm_items.specs.Windows.{expression_window}
use Rattle.wasm_items.specs.declared.init.ConstExpr.{ConstExpr}
use Rattle.wasm_items.specs.declared.init.ConstOperator.{ConstOperator}
use Rattle.wasm_items.specs.declared.init.ConstOperator.TheVariants.{End}
use Rattle.wasm_items.specs.declared.instructions.ConstInstruction.{ConstInstruction}

abbrev pub is_end : ConstOperator → Bool
is_end End = true
is_end other = false

-- the operator of an instruction that begins at this offset, by its opcode and the bytes after it
abbrev pub operator_at : (start : ℕ) → (opcode : ℕ) → Place → Outcome ConstOperator
operator_at start opcode p = if opcode == 0x0B then Ok (End, p) else after_opcode start opcode p

-- | an instruction, with the offset of its opcode; those of an expression, up to the end or the first fault; one call
--   of `next` [`instructions_in`, `NextInstruction`] <Instructions, Expressions>
-- the instruction at a place, whose offset is that of its opcode
unfoldable pub instruction_at : Place → Outcome ConstInstruction
instruction_at p = do
  opcode ← byte_at p
  operator ← operator_at p.offset opcode.0 opcode.1
  Ok (record { offset = p.offset; operator = operator.0 }, operator.1)

-- an instruction and, unless it is `end`, the instructions after it; or a fault, which ends the list
abbrev pub with_more : (Place → List (Result ConstInstruction FaultAt)) → Outcome ConstInstruction
    → List (Result ConstInstruction FaultAt)
with_more more (Ok x) = Ok x.0 ∷ (if is_end x.0.operator then [] else more x.1)
with_more more (Err e) = Err e ∷ []

-- at most `most` instructions from a place on, up to `end` or the first fault
abbrev pub instructions_from : (most : ℕ) → Place → List (Result ConstInstruction FaultAt)
instructions_from zero p = []
instructions_from (suc most) p = with_more (λ q. instructions_from most q) (instruction_at p)

-- all of them: each has at least one byte, and one more may be missing
unfoldable pub instructions_in : Place → List (Result ConstInstruction FaultAt)
instructions_in p = instructions_from (suc (length p.rest)) p

-- the remaining instructions of an iterator at a place, none if it has ended
abbrev pub instructions_left : (ended : Bool) → Place → List (Result ConstInstruction FaultAt)
instructions_left ended p = if ended then [] else instructions_in p

-- whether the iterator ends after this result
abbrev pub is_last : Result ConstInstruction Error → Bool
is_last (Ok x) = is_end x.operator
is_last (Err e) = true

-- one call of `next`, which never returns `OutOfMemory`
abbrev pub NextInstruction : (before : List (Result ConstInstruction FaultAt)) → Option (Result ConstInstruction Error)
    → (after : List (Result ConstInstruction FaultAt)) → Type 0
NextInstruction before given after = GivesFirst item_or_fault before given after × IfSome given NotOutOfMemory

-- ---- an expression that was read

-- Each instruction begins where the one before it ends, from one place to another.
abbrev pub Tile : Place → List ConstInstruction → Place → Type 0
Tile p [] q = p ≡ q
Tile p (x ∷ xs) q = (between : Place) × (instruction_at p ≡ Ok (x, between)) × Tile between xs q

-- the place at the end of a window
abbrev pub end_of_window : Window → Place
end_of_window w = record { features = w.features; offset = w.start + length w.bytes; rest = [] }

-- The results are instructions without a fault, and only the last one is `end`. They tile the window.
pub record TileTheirWindow (window : Window) (given : List (Result ConstInstruction FaultAt)) : Type 0 where
  pub first : List ConstInstruction
  pub last : ConstInstruction
  pub without_fault : given ≡ map as_read (first ++ last ∷ [])
  pub tile : Tile (place window) (first ++ last ∷ []) (end_of_window window)
  pub only_last : list_any (λ x. is_end x.operator) first ≡ false
  pub is_the_end : last.operator ≡ End

-- | the instructions of an expression that was read: no fault, they tile its window, and the last one alone is the
--   end [`TileTheirWindow`] <Instructions, Expressions>
-- What `next` returns up to the first `None`, from the start of an expression.
abbrev pub GivesItsInstructions : (next : List (Result ConstInstruction FaultAt)
    → Option (Result ConstInstruction Error) → List (Result ConstInstruction FaultAt) → Type 0) → ConstExpr → Type 0
GivesItsInstructions next expression = (given : List (Result ConstInstruction Error))
    → Drains next (instructions_in (place (expression_window expression))) given
    → TileTheirWindow (expression_window expression) (map item_or_fault given)
