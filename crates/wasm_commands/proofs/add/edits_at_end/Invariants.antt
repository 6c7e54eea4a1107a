use Rattle.std.proofs.Common.{false, map, take}
use Rattle.wasm_commands.specs.RewriteCommands.{EachInTurn, IsAddedBy, loaded_parts}
use Rattle.wasm_commands.proofs.add.edits_at_end.Given as goal

abbrev pub invariant-loop-section : goal.invariant-loop-section
invariant-loop-section l =
    EachInTurn (IsAddedBy false) (map loaded_parts (take l.section-index l.loaded)) l.edits.items
