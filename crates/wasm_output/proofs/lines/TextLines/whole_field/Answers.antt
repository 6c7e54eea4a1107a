use Rattle.wasm_output.specs.Fields.{value_text}
use Rattle.wasm_output.specs.Values.{value_of}
use Rattle.wasm_output.proofs.Saying.{says_value}
use Rattle.wasm_output.proofs.lines.TextLines.whole_field.Goals as goal

pub returns-clause-says : goal.returns-clause-says
returns-clause-says g c = says_value _ (value_text (value_of c.args.value)) _ _ _ c.begin_field.ensures.says c.value.ensures.says
