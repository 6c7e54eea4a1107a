use Rattle.wasm_edits.proofs.StripLaws as laws
use Rattle.wasm_edits.proofs.laws.stripping_twice_is_once.Goals as goal

pub returns : goal.returns
returns c = laws.stripping_twice
