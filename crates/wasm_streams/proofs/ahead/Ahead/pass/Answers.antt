use Rattle.wasm_streams.proofs.Common.{◌≡◌, ℕ, ◌+◌, List, length, take, drop, sym, ap, ◌∙◌, arith, ◌-◌, ◌≤◌, min, drop-drop, length-take}
use Rattle.std.proofs.lemmas.List.{drop-take}
use Rattle.wasm_streams.proofs.ahead.Ahead.pass.Goals as goal

passed : (b : List ℕ) (start end count : ℕ) → count ≤ length (take (end - start) (drop start b))
    → take (end - (start + count)) (drop (start + count) b) ≡ drop count (take (end - start) (drop start b))
passed b start end count l =
    let rest = end - (start + count) in
    let n : length (take (end - start) (drop start b)) ≡ min (end - start) (length (drop start b)) =
    length-take (end - start) (drop start b) in
    let size : count + rest ≡ end - start = omega (arith, l, n) in
    ap (take rest) (sym (drop-drop count start b)) ∙ (sym (drop-take count rest (drop start b))
    ∙ ap (λ (k : ℕ). drop count (take k (drop start b))) size)

pub returns : goal.returns
returns g c = grind (arith, passed)
