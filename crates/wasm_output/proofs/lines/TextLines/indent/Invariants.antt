use Rattle.wasm_output.proofs.Common.{Adds, lines}
use Rattle.wasm_output.proofs.lines.TextLines.indent.Given as goal

abbrev pub invariant-loop : goal.invariant-loop
invariant-loop g l = Adds (lines l.initial.self) (lines l.self)
