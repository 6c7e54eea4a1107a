use Rattle.wasm_commands.proofs.Steps.{makes}
use Rattle.wasm_commands.specs.ArgumentLists.{values_in}
use Rattle.wasm_commands.specs.Parsing.{AreTexts, reads_of}
use Rattle.wasm_commands.proofs.runner.Runner.values.Goals as goal

pub returns : goal.returns
returns g c =
    makes (AreTexts (values_in c.args.flag (reads_of c.args.arguments.now))) c.values.result _ _ _ c.allocated.ensures c.values.ensures
