use Rattle.wasm_output.specs.Tree.{Adds}
use Rattle.wasm_show.proofs.items.show_functions.Given as goal

abbrev pub invariant-loop-function : goal.invariant-loop-function
invariant-loop-function g l = record {
  can : (goal.iterator-loop-function g).can_next l.function-iterator;
  finite : (goal.iterator-loop-function g).is_finite l.function-iterator;
  adds : Adds (g.O.Tree.writing l.initial.out) (g.O.Tree.writing l.out);
}
