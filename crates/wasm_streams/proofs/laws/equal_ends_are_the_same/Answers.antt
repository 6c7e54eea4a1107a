use Rattle.wasm_streams.proofs.Common.{◌≡◌, Some, arith}
use Rattle.wasm_base.specs.Comparing.{DecidesWhether}
use Rattle.wasm_base.specs.FaultAt.{FaultAt}
use Rattle.wasm_streams.specs.Ends.{fault_at_end}
use Rattle.wasm_frames.proofs.ForCallers.{equal_errors}
use Rattle.wasm_streams.specs.contracts.turns.EndedPartialEq.TheImpl as Compared
use Rattle.wasm_streams.proofs.laws.equal_ends_are_the_same.Goals as goal

some_is : (a b : FaultAt) → Some a ≡ Some b → a ≡ b
some_is a b h = cc

ended : DecidesWhether (λ one other. fault_at_end one ≡ fault_at_end other) (Compared.ghosts).eq
ended one other = grind (arith, equal_errors, some_is)

pub returns-clause-ended : goal.returns-clause-ended
returns-clause-ended c = ended
