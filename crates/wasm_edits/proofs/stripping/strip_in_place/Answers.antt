use Rattle.wasm_edits.proofs.Common.{◌≡◌, ℕ, List, ◌++◌, length, sym, arith, take, drop, ap, ◌∙◌, subst₂, take_at, IsStripped, stays_by}
use Rattle.wasm_edits.proofs.stripping.strip_in_place.Goals as goal

pub returns : goal.returns
returns g c =
    let vector = c.args.bytes.now in
    let new = c.strip_to_front.new.bytes in
    let rest : List ℕ = drop (length new) vector.items in
    let whole : take vector.len (new ++ rest) ≡ new = take_at new rest vector.len
    (omega (arith, c.in_ok-kept.ensures.2, c.as_mut_slice.ensures.len)) in
    subst₂ (λ (stream kept : List ℕ). IsStripped (stays_by c.args.keep) stream kept) c.as_mut_slice.ensures.value
    (ap (take c.in_ok-kept.kept) (sym whole) ∙ sym c.truncate.ensures.items) c.in_ok-kept.ensures.0
