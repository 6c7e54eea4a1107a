use Rattle.std.proofs.Common.{take}
use Rattle.wasm_commands.specs.Choices.{ChooseInTurn}
use Rattle.wasm_commands.specs.Parsing.{texts}
use Rattle.wasm_commands.proofs.dump.choices.chosen_by.Given as goal

abbrev pub invariant-loop-word : goal.invariant-loop-word
invariant-loop-word l = ChooseInTurn (texts (take l.word-index l.words)) l.only.items
