use Rattle.wasm_commands.proofs.Steps.{makes}
use Rattle.wasm_commands.specs.ArgumentLists.{operands_in}
use Rattle.wasm_commands.specs.Parsing.{AreTexts, reads_of}
use Rattle.wasm_commands.proofs.runner.Runner.operands.Goals as goal

pub returns : goal.returns
returns g c = makes (AreTexts (operands_in (reads_of c.args.arguments.now))) c.operands.result _ _ _ c.allocated.ensures c.operands.ensures
