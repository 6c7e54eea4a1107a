-- The bytes of branch hints. Tool conventions, Code Metadata, Branch Hints.
use Rattle.std.specs.Prelude.{ℕ, ◌+◌, ◌<◌, ◌^◌, List, [], ◌∷◌, ◌++◌, length}
use Rattle.wasm_base.specs.Inner.{after_reading}
use Rattle.wasm_custom.specs.BranchHinting.{branch_hint_at}
use Rattle.wasm_custom.specs.declared.branch_hinting.BranchHint.{BranchHint}
use Rattle.wasm_custom.specs.declared.branch_hinting.BranchHintFunction.{BranchHintFunction}
use Rattle.wasm_encode.specs.Limits.{flag}
use Rattle.wasm_encode.specs.Lists.{IsList, list_bytes, list_placed}
use Rattle.wasm_encode.specs.Numbers.{unsigned_bytes}

-- | the bytes of a branch hint: the offset of its branch, the size of its value, which is 1, and its value; of the
--   hints of a function: its index, and a list that is copied [`function_hints_bytes`; `FunctionHintsFit`;
--   `function_hints_placed`] <tool conventions, Code Metadata, Branch Hints>
-- a hint: the offset of its branch, the size of its value, and its value, 1 for a likely branch
unfoldable pub hint_bytes : BranchHint → List ℕ
hint_bytes hint = unsigned_bytes hint.func_offset ++ 0x01 ∷ flag hint.taken 1 ∷ []

-- the hints of a function: its index, and a list, whose bytes are copied
unfoldable pub function_hints_bytes : BranchHintFunction → List ℕ
function_hints_bytes x = unsigned_bytes x.func ++ list_bytes x.hints

pub record FunctionHintsFit (x : BranchHintFunction) : Type 0 where
  pub func : x.func < 2 ^ 32
  pub hints : IsList (after_reading branch_hint_at) x.hints
  pub short : length (function_hints_bytes x) < 2 ^ 32

-- the hints as they are read with these features at an offset: the window of the list is there
abbrev pub function_hints_placed : (features offset : ℕ) → BranchHintFunction → BranchHintFunction
function_hints_placed features offset x = record {
  func = x.func;
  hints = list_placed features (offset + length (unsigned_bytes x.func)) x.hints;
}
