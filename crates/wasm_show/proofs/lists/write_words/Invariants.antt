use Rattle.std.proofs.Common.{take}
use Rattle.std.specs.List.{flat_map}
use Rattle.wasm_output.specs.Said.{Says}
use Rattle.wasm_output.specs.Tree.{Adds}
use Rattle.wasm_show.specs.TypeText.{after_blank}
use Rattle.wasm_show.proofs.lists.write_words.Given as goal

abbrev pub invariant-loop-item : goal.invariant-loop-item
invariant-loop-item g l = record {
  adds : Adds (g.O.Tree.writing l.initial.out) (g.O.Tree.writing l.out);
  says : Says (flat_map (λ x. after_blank (g.T.Text.words x)) (take l.item-index l.items)) (g.O.Tree.writing l.initial.out)
      (g.O.Tree.writing l.out);
}
