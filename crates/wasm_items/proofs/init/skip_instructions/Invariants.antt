use Rattle.std.proofs.Common.{length}
use Rattle.wasm_base.specs.Window.{place, KeepsWindow}
use Rattle.wasm_items.proofs.PassedInstructions.{Left}
use Rattle.wasm_items.specs.Init.{end_of_expression}
use Rattle.wasm_items.proofs.init.skip_instructions.Given as goal

abbrev pub invariant-instructions : goal.invariant-instructions
invariant-instructions l = record {
  left : Left (place l.reader) (end_of_expression (place l.fn.reader));
  keeps : KeepsWindow l.fn.reader l.reader;
}

abbrev pub decreases-instructions : goal.decreases-instructions
decreases-instructions l = length (place l.reader).rest
