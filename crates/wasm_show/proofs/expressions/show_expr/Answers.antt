use Rattle.wasm_output.proofs.ForCallers.{says_named}
use Rattle.wasm_show.proofs.expressions.show_expr.Goals as goal

pub returns-clause-says : goal.returns-clause-says
returns-clause-says g c = says_named c.args.name.now _ _ _ c.begin_field.ensures.says c.write_instructions.ensures.some
