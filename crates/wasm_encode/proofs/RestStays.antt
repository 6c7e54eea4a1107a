-- Bytes that stay after an index stay after a later one.
use Rattle.std.proofs.Common.{◌≡◌, ℕ, ◌+◌, ◌-◌, ◌≤◌, List, drop, sym, arith, ap, ◌∙◌}
use Rattle.std.proofs.Math.Seq.{drop-drop}

-- further on
pub stays_on : (n m : ℕ) (xs ys : List ℕ) → n ≤ m → drop n xs ≡ drop n ys → drop m xs ≡ drop m ys
stays_on n m xs ys l e =
    let sum : n + (m - n) ≡ m = omega (arith, l) in
    ap (λ (k : ℕ). drop k xs) (sym sum) ∙ (sym (drop-drop (m - n) n xs)
    ∙ (ap (λ (zs : List ℕ). drop (m - n) zs) e ∙ (drop-drop (m - n) n ys ∙ ap (λ (k : ℕ). drop k ys) sum)))

-- and so does a step from one to the other
pub stays_after : (n m : ℕ) (new old first : List ℕ) → n ≤ m → drop m new ≡ drop m old → drop n old ≡ drop n first
    → drop m new ≡ drop m first
stays_after n m new old first l step before = step ∙ stays_on n m old first l before
