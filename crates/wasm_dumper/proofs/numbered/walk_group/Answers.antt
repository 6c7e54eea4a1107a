use Rattle.wasm_dumper.proofs.Common.{[], ◌∷◌, ap, ◌∙◌, sym, None, Some, length}
use Rattle.wasm_dumper.specs.Walks.{after_grouped, after_types, grouped, types_seen}
use Rattle.wasm_items.specs.RecGroups.{rec_group_parts, subtype_parts}
use Rattle.wasm_show.specs.Seen.{an_item}
use Rattle.wasm_show.proofs.ForCallers.{sees_same, sees_then, sees_told}
use Rattle.wasm_dumper.proofs.Walked.{mapped_length}
use Rattle.wasm_dumper.proofs.numbered.walk_group.Goals as goal

pub returns-then-not-group-clause-sees : goal.returns-then-not-group-clause-sees
returns-then-not-group-clause-sees g c = sees_same g.W.Walker.saw g.W.Walker.why _ _ _ _
    (ap (λ b. grouped b c.args.first c.args.offset (length (rec_group_parts c.args.group.now).types)) (sym c.if-not-group.true))
    (sees_told g.W.Walker.saw g.W.Walker.why _ _ _ c.take_item.ensures)

pub returns-clause-sees : goal.returns-clause-sees
returns-clause-sees g c =
    let one = an_item 1 (Some c.args.offset) None ∷ [] in
    let count = ap (λ l. length l) c.deref.ensures ∙ sym (mapped_length subtype_parts c.args.group.now.types) in
    sees_same g.W.Walker.saw g.W.Walker.why _ _ _ _
    (ap (λ n. an_item 1 (Some c.args.offset) None ∷ types_seen c.args.first n) count
    ∙ ap (λ b. grouped b c.args.first c.args.offset (length (rec_group_parts c.args.group.now).types)) (sym c.if-not-group.false))
    (sees_then g.W.Walker.saw g.W.Walker.why one (types_seen c.args.first (length c.deref.result.now)) _ _ _
    (sees_told g.W.Walker.saw g.W.Walker.why one _ _ c.take_item-2.ensures) c.walk_types.ensures.sees)

pub returns-clause-next : goal.returns-clause-next
returns-clause-next g c =
    let count = ap (λ l. length l) c.deref.ensures ∙ sym (mapped_length subtype_parts c.args.group.now.types) in
    c.walk_types.ensures.next ∙ (ap (after_types c.args.first) count
    ∙ ap (λ b. after_grouped b c.args.first (length (rec_group_parts c.args.group.now).types)) (sym c.if-not-group.false))
