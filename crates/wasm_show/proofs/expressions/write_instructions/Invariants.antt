use Rattle.wasm_output.specs.Said.{SaysSome}
use Rattle.wasm_output.specs.Tree.{Adds}
use Rattle.wasm_show.proofs.expressions.write_instructions.Given as goal

abbrev pub invariant-loop : goal.invariant-loop
invariant-loop g l = record {
  adds : Adds (g.O.Tree.writing l.initial.out) (g.O.Tree.writing l.out);
  some : SaysSome (g.O.Tree.writing l.initial.out) (g.O.Tree.writing l.out);
}
