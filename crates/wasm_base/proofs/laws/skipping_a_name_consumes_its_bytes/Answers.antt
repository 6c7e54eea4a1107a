use Rattle.wasm_base.proofs.Passing.{name_passed}
use Rattle.wasm_base.proofs.laws.skipping_a_name_consumes_its_bytes.Goals as goal

pub returns : goal.returns
returns c = λ p q x such reads. name_passed p q x.now reads
