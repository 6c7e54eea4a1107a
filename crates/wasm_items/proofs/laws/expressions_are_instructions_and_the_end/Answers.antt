use Rattle.wasm_items.proofs.Expressions.{end_or_instruction}
use Rattle.wasm_items.proofs.laws.expressions_are_instructions_and_the_end.Goals as goal

pub returns : goal.returns
returns c = end_or_instruction
