use Rattle.std.proofs.Common.{◌≡◌, All, false, take}
use Rattle.wasm_encode.proofs.expressions.are_inner.Given as goal
use Rattle.wasm_items.specs.Instructions.{is_end}

abbrev pub invariant-operators : goal.invariant-operators
invariant-operators l = All (λ x. is_end x ≡ false) (take l.operator-index l.operators)
