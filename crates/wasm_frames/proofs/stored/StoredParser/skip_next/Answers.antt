use Rattle.wasm_frames.proofs.Common.{◌≡◌, List, ℕ, sym, subst, ap, ◌∙◌, ParserState}
use Rattle.std.specs.Prelude.{Option}
use Rattle.wasm_frames.proofs.Settled.{settled}
use Rattle.wasm_frames.specs.SkipNext.{Skip, SkipsNext, skip_of, state_after_skip}
use Rattle.wasm_frames.proofs.stored.StoredParser.skip_next.Goals as goal

-- what the same parsers skip
of_same : {p q r s : ParserState} (bytes : List ℕ) (skip : Option Skip) → q ≡ p → r ≡ s → SkipsNext q bytes skip s
    → SkipsNext p bytes skip r
of_same {p} {q} {r} {s} bytes skip old new is = subst (λ (x : ParserState). SkipsNext x bytes skip r) old
    (subst (λ (x : ParserState). SkipsNext q bytes skip x) (sym new) is)

pub returns-clause-gives : goal.returns-clause-gives
returns-clause-gives c =
    c.skip_settled.ensures.gives ∙ ap (λ (p : ParserState). skip_of p c.args.bytes.now) c.settle.ensures.is

pub returns-clause-state : goal.returns-clause-state
returns-clause-state c = settled _ c.skip_settled.ensures.room ∙ c.skip_settled.ensures.state
    ∙ ap (λ (p : ParserState). state_after_skip p (skip_of p c.args.bytes.now)) c.settle.ensures.is

pub returns-clause-skips : goal.returns-clause-skips
returns-clause-skips c = of_same _ _ c.settle.ensures.is (settled _ c.skip_settled.ensures.room) c.skip_settled.ensures.skips
