-- Where numbers are bad, and what more of them would say.
use Rattle.wasm_grammar.proofs.Common.{arith, ◌≡◌, List, ℕ, None, bad, number, Fault, VarU32}
use Rattle.wasm_base.specs.Hints.{hint_at}

pub bad_hint : (xs : List ℕ) (f : Fault) (o : ℕ) → number VarU32 xs ≡ bad f o → hint_at 1 f ≡ None
unfolding number
bad_hint xs f o e = grind arith
