use Rattle.std.proofs.Common.{arith}
use Rattle.wasm_commands.proofs.Adding.{each_next}
use Rattle.wasm_commands.specs.RewriteCommands.{IsAdded, loaded_parts}
use Rattle.wasm_commands.proofs.add.edits_by.Goals as goal

pub loop-section-preserved : goal.loop-section-preserved
loop-section-preserved c =
    let added = rw c.as_slice.ensures.value at c.edit_of.ensures in
    each_next IsAdded loaded_parts c.args.loaded.now c.loop-section.section-index c.section-item.result _ _ c.edit_of.result
    (omega arith) c.section-item.is c.loop-section.invariant (c.is_set-replaces.result, added) c.in_ok-push.ensures.items
