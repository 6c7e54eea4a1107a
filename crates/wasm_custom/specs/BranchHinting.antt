-- Branch hints. Tool conventions, Code Metadata, Branch Hints.
use Rattle.std.specs.Prelude.{Bool, [], ◌∷◌, Ok}
use Rattle.wasm_base.specs.Inner.{inner_section_at, after_reading}
use Rattle.wasm_base.specs.Leading.{in_table, flag_at}
use Rattle.wasm_base.specs.Number.{unsigned_at}
use Rattle.wasm_base.specs.Outcome.{Outcome, ◌>>=◌}
use Rattle.wasm_base.specs.Window.{Place}
use Rattle.wasm_base.specs.declared.fault.Lead.TheVariants as Leads
use Rattle.wasm_base.specs.declared.fault.NumberKind.TheVariants.{VarU32}
use Rattle.wasm_custom.specs.declared.branch_hinting.BranchHint.{BranchHint}
use Rattle.wasm_custom.specs.declared.branch_hinting.BranchHintFunction.{BranchHintFunction}

-- a byte for the size of a hint's value, which must be 1
abbrev pub hint_size_at : Place → Outcome (Unit {0})
hint_size_at = in_table Leads.BranchHint ((1, tt) ∷ [])

-- a byte for a hint's value: 1 if the branch is likely to be taken, 0 if it isn't
abbrev pub taken_at : Place → Outcome Bool
taken_at = flag_at Leads.BranchTaken

-- | a branch hint: an offset, the size of its value, which is 1, and the value, 0 or 1; the hints of a function
--   [`function_hints_at`] <tool conventions, Code Metadata, Branch Hints>
-- a hint: the offset of its instruction in the function's body, the size of its value, its value
unfoldable pub branch_hint_at : Place → Outcome BranchHint
branch_hint_at p = do
  offset ← unsigned_at VarU32 p
  size ← hint_size_at offset.1
  taken ← taken_at size.1
  Ok (record { func_offset = offset.0; taken = taken.0 }, taken.1)

-- the hints of a function: its index, and a list
unfoldable pub function_hints_at : Place → Outcome BranchHintFunction
function_hints_at p = do
  func ← unsigned_at VarU32 p
  hints ← inner_section_at (after_reading branch_hint_at) func.1
  Ok (record { func = func.0; hints = hints.0 }, hints.1)
