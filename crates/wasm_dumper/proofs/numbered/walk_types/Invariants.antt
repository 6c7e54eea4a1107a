use Rattle.wasm_dumper.proofs.Common.{ℕ, ◌≡◌, ◌+◌, length}
use Rattle.wasm_dumper.specs.Walks.{after_types, types_seen}
use Rattle.wasm_show.specs.Walk.{Sees}
use Rattle.wasm_dumper.proofs.numbered.walk_types.Given as goal

-- what sees the remaining types sees all
abbrev pub invariant-loop-ty : goal.invariant-loop-ty
invariant-loop-ty g l = record {
  sees : (left : ℕ) → l.ty-index + left ≡ length l.types → (new : _) → Sees g.W.Walker.saw g.W.Walker.why (types_seen l.index left)
      l.walker new → Sees g.W.Walker.saw g.W.Walker.why (types_seen l.first (length l.types)) l.initial.walker new;
  next : (left : ℕ) → l.ty-index + left ≡ length l.types → after_types l.index left ≡ after_types l.first (length l.types);
}
