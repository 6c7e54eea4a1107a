use Rattle.wasm_frames.proofs.StateLaws.{grammar_same, state_goes_on}
use Rattle.wasm_frames.proofs.laws.parser_suffices.Goals as goal

pub returns : goal.returns
returns c = λ parser start prefix s. (grammar_same parser start prefix s, state_goes_on parser start prefix s)
