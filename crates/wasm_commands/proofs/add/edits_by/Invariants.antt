use Rattle.std.proofs.Common.{map, take}
use Rattle.wasm_commands.specs.RewriteCommands.{EachInTurn, IsAdded, loaded_parts}
use Rattle.wasm_commands.proofs.add.edits_by.Given as goal

abbrev pub invariant-loop-section : goal.invariant-loop-section
invariant-loop-section l =
    EachInTurn IsAdded (map loaded_parts (take l.section-index l.loaded)) l.edits.items
