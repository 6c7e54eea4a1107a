-- Bytes that begin as a header does.
use Rattle.wasm_grammar.proofs.Common.{arith, ◌≡◌, Bool, true, false, cond, List, [], ◌∷◌, ap, ℕ, length, ◌≤◌, None, ◌<◌, ◌&&◌, sym, ◌∙◌}
use Rattle.wasm_grammar.proofs.Common.{nat_lt, nat_eq, lt-ltb, ◌-◌, Some, magic, agree}
use Rattle.std.specs.List.{starts_with}
use Rattle.wasm_grammar.specs.Waiting.{asked_at_section}

-- bytes that others begin with agree with them
agrees : (whole bytes : List ℕ) → length bytes ≤ length whole → starts_with nat_eq whole bytes ≡ agree bytes whole
agrees whole [] l = cc
agrees [] (b ∷ bytes) l = absurd (omega (arith, l))
agrees (x ∷ whole) (b ∷ bytes) l = ap (λ t. nat_eq b x && t) (agrees whole bytes (omega (arith, l)))

by_tests : (bytes : List ℕ) (a few : Bool) → false ≡ nat_eq (length bytes) 0 → agree bytes magic ≡ a → nat_lt (length bytes) 4 ≡ few
    → asked_at_section bytes ≡ cond (a && few) (Some (4 - length bytes)) None
by_tests bytes a few e f g = grind arith

pub begun_asks : (bytes : List ℕ) → false ≡ nat_eq (length bytes) 0 → length bytes < 4 → true ≡ starts_with nat_eq magic bytes
    → Some (4 - length bytes) ≡ asked_at_section bytes
begun_asks bytes e l s = sym (by_tests bytes true true e (sym (s ∙ agrees magic bytes (omega (arith, l)))) (lt-ltb (length bytes) 4 l))

pub other_asks_nothing : (bytes : List ℕ) → false ≡ nat_eq (length bytes) 0 → length bytes < 4 → false ≡ starts_with nat_eq magic bytes
    → None ≡ asked_at_section bytes
other_asks_nothing bytes e l s = grind (arith, agrees)

pub long_asks_nothing : (bytes : List ℕ) → false ≡ nat_eq (length bytes) 0 → 4 ≤ length bytes → None ≡ asked_at_section bytes
long_asks_nothing bytes e l = grind arith
