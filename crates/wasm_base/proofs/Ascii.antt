-- Short text, seen by its first and its last bytes.
use Rattle.std.proofs.Common.{◌≡◌, ℕ, ◌+◌, ◌-◌, ◌<◌, ◌≤◌, List, length, take, drop, get_or, arith, subst, ap, ◌∙◌, ⊎_elim}
use Rattle.std.specs.Prelude.{All}
use Rattle.std.specs.Str.{IsAscii}
use Rattle.std.proofs.lemmas.Bool.{cases_lt}
use Rattle.std.proofs.lemmas.List.{get_or-take, get_or-drop, get_or_past, length-take, length-drop}

-- The first n bytes and the last n bytes are all of them.
pub both_ends : (n : ℕ) (bytes : List ℕ) → n ≤ length bytes → length bytes ≤ n + n → All (λ b. b < 128) (take n bytes)
    → All (λ b. b < 128) (take n (drop (length bytes - n) bytes)) → IsAscii bytes
both_ends n bytes le few first last i =
    let from = length bytes - n in ⊎_elim
    (λ before. subst (λ b. b < 128) (get_or-take n bytes i 0 before) (first i 0 (omega (arith, length-take n bytes))))
    (λ later. ⊎_elim
    (λ within.
    let at : from + (i - from) ≡ i = omega arith in
    let there = get_or-take n (drop from bytes) (i - from) 0 (omega arith) in
    subst (λ b. b < 128) (there ∙ get_or-drop from bytes (i - from) 0 ∙ ap (λ k. get_or bytes k 0) at)
    (last (i - from) 0 (omega (arith, length-take n (drop from bytes), length-drop from bytes))))
    (λ past. omega (arith, get_or_past bytes i 0 past))
    (cases_lt i (length bytes)))
    (cases_lt i n)
