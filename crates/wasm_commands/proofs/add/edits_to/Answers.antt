use Rattle.std.proofs.Common.{arith}
use Rattle.wasm_commands.proofs.Adding.{each_next}
use Rattle.wasm_commands.specs.RewriteCommands.{IsAddedTo, loaded_parts}
use Rattle.wasm_commands.proofs.add.edits_to.Goals as goal

pub loop-section-preserved : goal.loop-section-preserved
loop-section-preserved c =
    let added = rw (c.is_some-replaces.ensures, c.as_slice.ensures.value) at c.edit_of.ensures in
    each_next (IsAddedTo c.args.bytes.now) loaded_parts c.args.loaded.now c.loop-section.section-index c.section-item.result _ _
    c.edit_of.result (omega arith) c.section-item.is c.loop-section.invariant (c.in-Ok.found, c.in-Ok.ensures, added)
    c.in_ok-push.ensures.items
