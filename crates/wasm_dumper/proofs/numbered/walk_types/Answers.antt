use Rattle.wasm_dumper.proofs.Common.{◌≡◌, ℕ, suc, [], ◌∷◌, None, Some, Types, ap, ◌∙◌, arith, length, more, subst}
use Rattle.wasm_dumper.specs.Walks.{after_types, types_seen}
use Rattle.wasm_show.specs.Seen.{an_item}
use Rattle.wasm_show.specs.Walk.{Sees}
use Rattle.wasm_show.proofs.ForCallers.{sees_nothing, sees_then, sees_told}
use Rattle.wasm_dumper.proofs.numbered.walk_types.Goals as goal

pub loop-ty-init : goal.loop-ty-init
loop-ty-init g c = record {
  sees = λ left e new s.
      let is : left ≡ length c.args.types.now = omega (arith, e) in
      subst (λ (n : ℕ). Sees g.W.Walker.saw g.W.Walker.why (types_seen c.args.first n) c.args.walker.now new) is s;
  next = λ left e.
      let is : left ≡ length c.args.types.now = omega (arith, e) in
      ap (after_types c.args.first) is;
}

pub loop-ty-preserved : goal.loop-ty-preserved
loop-ty-preserved g c =
    let one = an_item 2 None (Some (Types, c.loop-ty.index)) ∷ [] in
    record {
      sees = λ left e new s. c.loop-ty.invariant.sees (suc left) (omega (arith, e)) new
          (sees_then g.W.Walker.saw g.W.Walker.why one (types_seen (more c.loop-ty.index 1) left) _ _ _
          (sees_told g.W.Walker.saw g.W.Walker.why one _ _ c.take_item.ensures)
          (subst (λ (n : ℕ). Sees g.W.Walker.saw g.W.Walker.why (types_seen n left) c.take_item.new.self new)
          c.saturating_add-index.ensures s));
      next = λ left e. ap (λ (n : ℕ). after_types n left) c.saturating_add-index.ensures
          ∙ c.loop-ty.invariant.next (suc left) (omega (arith, e));
    }

pub returns-clause-sees : goal.returns-clause-sees
returns-clause-sees g c = c.loop-ty.invariant.sees 0 (omega arith) _ (sees_nothing g.W.Walker.saw g.W.Walker.why _)

pub returns-clause-next : goal.returns-clause-next
returns-clause-next g c = c.loop-ty.invariant.next 0 (omega arith)
