use Rattle.wasm_examples.proofs.Common.{Ok, Err, ◌∙◌, ◌++◌, ap, flat_map, map, err_from_is_err_and, string_bytes, feature_bits}
use Rattle.wasm_examples.specs.Customs.{customs_of, sizes_in}
use Rattle.wasm_examples.specs.declared.customs.CustomSize.{CustomSize}
use Rattle.wasm_examples.proofs.Collected.{weaker, collected}
use Rattle.wasm_examples.proofs.customs.custom_sizes.Goals as goal

pub returns-in_err-visit_pieces : goal.returns-in_err-visit_pieces
returns-in_err-visit_pieces c =
    let e = err_from_is_err_and c.from_residual.result c.from_residual.ensures.1 in
    rw (e.1, e.2) (weaker (λ events h. tt) c.args.pieces.now (feature_bits c.args.features) (Err c.in_err-visit_pieces.field-0.0)
    (rw c.in_err-visit_pieces.was at c.visit_pieces.ensures))

pub returns : goal.returns
returns c =
    (weaker (λ events h. collected (λ v. sizes_in v.list) customs_of _ c.visit_pieces.new.visitor events h
    ∙ ap (λ items. map (λ (x : CustomSize). (string_bytes x.name, x.size)) items ++ flat_map customs_of events) c.new.ensures.items)
    c.args.pieces.now (feature_bits c.args.features) (Ok c.in_ok-visit_pieces.field-0)
    (rw c.in_ok-visit_pieces.was at c.visit_pieces.ensures)).0
