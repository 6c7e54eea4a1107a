use Rattle.std.proofs.Common.{arith, false, subst}
use Rattle.wasm_commands.proofs.Adding.{each_next}
use Rattle.wasm_commands.specs.RewriteCommands.{IsAddedBy, loaded_parts}
use Rattle.wasm_commands.proofs.add.edits_at_end.Goals as goal

pub loop-section-preserved : goal.loop-section-preserved
loop-section-preserved c =
    let added = subst (λ b. IsAddedBy false (c.section-item.result.name.now, b) c.edit_of.result) c.as_slice.ensures.value
    c.edit_of.ensures in
    each_next (IsAddedBy false) loaded_parts c.args.loaded.now c.loop-section.section-index c.section-item.result _ _
    c.edit_of.result (omega arith) c.section-item.is c.loop-section.invariant added c.in_ok-push.ensures.items
