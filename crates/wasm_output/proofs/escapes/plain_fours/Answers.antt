use Rattle.wasm_output.proofs.Common.{◌≡◌, ℕ, ◌-◌, false, arith, ◌+◌, sym, ap, ◌∙◌, subst, take, list_any-append, list_any, is_escaped}
use Rattle.std.proofs.Common.{drop, take-add}
use Rattle.wasm_output.proofs.escapes.plain_fours.Goals as goal

pub fours-preserved : goal.fours-preserved
fours-preserved c =
    let bytes = c.args.bytes.now in
    let count = c.fours.count in
    let width : c.fours.count + 4 - c.fours.count ≡ 4 = omega arith in
    record {
      within = omega arith;
      plain = ap (list_any is_escaped) (take-add count 4 bytes) ∙ (list_any-append is_escaped (take count bytes) (take 4 (drop count bytes))
          ∙ rw c.fours.invariant.plain (subst (λ (n : ℕ). list_any is_escaped (take n (drop count bytes)) ≡ false) width
          (sym c.is_any_escaped.ensures ∙ c.if-not-is_any_escaped.true)));
    }
