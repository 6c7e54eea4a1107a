-- Branch hints as plain numbers.
use Rattle.std.specs.Prelude.{ℕ, ◌-◌, Ok, Err}
use Rattle.wasm_base.specs.Outcome.{Outcome}
use Rattle.wasm_base.specs.Window.{Place}
use Rattle.wasm_c_items.specs.Faults.{no_fault, plain_fault}
use Rattle.wasm_custom.specs.declared.branch_hinting.BranchHint.{BranchHint}
use Rattle.wasm_custom.specs.declared.branch_hinting.BranchHintFunction.{BranchHintFunction}
use Rattle.wasm_c_items.specs.Spans.{flag, items_span, no_span}
use Rattle.wasm_c_items.specs.declared.hints.PlainHintedFunction.{PlainHintedFunction}
use Rattle.wasm_c_items.specs.declared.hints.PlainBranchHint.{PlainBranchHint}

-- a function that has hints
abbrev pub plain_hinted_function : (from : ℕ) → Place → Outcome BranchHintFunction → PlainHintedFunction
plain_hinted_function from p (Ok x) = record {
  fault = no_fault;
  consumed = x.1.offset - p.offset;
  func = x.0.func;
  count = x.0.hints.count;
  hints = items_span from x.0.hints;
}
plain_hinted_function from p (Err f) = record {
  fault = plain_fault f;
  consumed = 0;
  func = 0;
  count = 0;
  hints = no_span;
}

-- a hint
abbrev pub plain_branch_hint : (from : ℕ) → Place → Outcome BranchHint → PlainBranchHint
plain_branch_hint from p (Ok x) = record {
  fault = no_fault;
  consumed = x.1.offset - p.offset;
  func_offset = x.0.func_offset;
  taken = flag x.0.taken;
}
plain_branch_hint from p (Err f) = record {
  fault = plain_fault f;
  consumed = 0;
  func_offset = 0;
  taken = 0;
}
