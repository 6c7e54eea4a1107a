-- What is wrong with bytes is wrong at one of them, or at their end.
use Rattle.wasm_grammar.proofs.Common.{arith, ◌≡◌, List, ℕ, length, ◌≤◌, ◌<◌, Option, common_steps, length-drop, number-used, last_place-lt}
use Rattle.wasm_grammar.proofs.Common.{named, name, bad, number, Fault}
use Rattle.wasm_base.specs.Name.{refused}
use Rattle.wasm_base.specs.declared.fault.NumberKind.{NumberKind}

-- a number is wrong at one of its bytes
pub number_place : (kind : NumberKind) (xs : List ℕ) (f : Fault) (p : ℕ) → number kind xs ≡ bad f p → p < length xs
unfolding number
number_place kind xs f p r = grind (arith, common_steps, last_place-lt)

-- a name is wrong at one of the bytes, or at their end
pub name_place : (limit : Option ℕ) (xs : List ℕ) (f : Fault) (p : ℕ) → name limit xs ≡ refused f p → p ≤ length xs
unfolding name
name_place limit xs f p r = grind (arith, number_place, number-used, length-drop)

-- a name takes no more than the bytes that are there
pub name_used : (limit : Option ℕ) (xs shown : List ℕ) (k : ℕ) → name limit xs ≡ named shown k → k ≤ length xs
unfolding name
name_used limit xs shown k r = grind (arith, number-used, length-drop)
