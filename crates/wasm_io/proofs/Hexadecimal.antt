-- The digits of a number in hexadecimal, one at a time.
use Rattle.std.proofs.Common.{◌≡◌, ℕ, zero, suc, ◌/◌, ◌%◌, ◌^◌, ◌<◌, ◌≤◌, false, List, [], ◌∷◌, ◌++◌}
use Rattle.std.proofs.Common.{arith, append_assoc, ap, inl, inr, refl, sym, ◌∙◌, ◌⊎◌}
use Rattle.std.proofs.lemmas.Bool.Decides.{nat_tests}
use Rattle.std.proofs.lemmas.Fmt.{hex_one_digit}
use Rattle.std.specs.List.{list_any}
use Rattle.std.specs.Prelude.{nat_eq}
use Rattle.std.specs.Fmt.{digit_glyph, digits, digits_onto}

-- the last `k` digits of a number at most, before other digits
abbrev spell : ℕ → ℕ → List ℕ → List ℕ
spell k n later = digits_onto k 16 false n later

abbrev last_glyph : ℕ → ℕ
last_glyph n = digit_glyph false (n % 16)

spell_last : (k n : ℕ) (later : List ℕ) → n < 16 → spell (suc k) n later ≡ last_glyph n ∷ later
spell_last k n later h = let none : n / 16 ≡ 0 = omega arith in rw none refl

spell_next : (k n : ℕ) (later : List ℕ) → 16 ≤ n → spell (suc k) n later ≡ spell k (n / 16) (last_glyph n ∷ later)
spell_next k n later h = grind (arith, nat_tests)

below_or_not : (n : ℕ) → (n < 16) ⊎ (16 ≤ n)
below_or_not n = search arith

-- digits are put before others
spell-append : (k n : ℕ) (later : List ℕ) → spell k n later ≡ spell k n [] ++ later
spell-append zero n later = refl
spell-append (suc k) n later =
    elim (below_or_not n) [
      | inl l ↦ spell_last k n later l ∙ ap (λ (x : List ℕ). x ++ later) (sym (spell_last k n [] l))
      | inr l ↦
          spell_next k n later l ∙ (spell-append k (n / 16) (last_glyph n ∷ later)
          ∙ (sym (append_assoc (spell k (n / 16) []) (last_glyph n ∷ []) later)
          ∙ ap (λ (x : List ℕ). x ++ later) (sym (spell_next k n [] l ∙ spell-append k (n / 16) (last_glyph n ∷ [])))))
    ]

-- more digits than a number has change nothing
spell_enough : (j k n : ℕ) (later : List ℕ) → n < 16 ^ suc j → n < 16 ^ suc k → spell (suc j) n later ≡ spell (suc k) n later
spell_enough zero k n later p q = spell_last zero n later (omega arith) ∙ sym (spell_last k n later (omega arith))
spell_enough (suc j) zero n later p q = spell_last (suc j) n later (omega arith) ∙ sym (spell_last zero n later (omega arith))
spell_enough (suc j) (suc k) n later p q =
    elim (below_or_not n) [
      | inl l ↦ spell_last (suc j) n later l ∙ sym (spell_last (suc k) n later l)
      | inr l ↦
          spell_next (suc j) n later l ∙ (spell_enough j k (n / 16) (last_glyph n ∷ later) (omega arith) (omega arith)
          ∙ sym (spell_next (suc k) n later l))
    ]

spelled : (n : ℕ) → digits 16 false n ≡ spell 64 n []
unfolding digits
spelled n = refl

-- all digits but the last are those of a sixteenth
pub hexadecimal_step : (n : ℕ) → 16 ≤ n → n < 2 ^ 64 → digits 16 false n ≡ digits 16 false (n / 16) ++ digit_glyph false (n % 16) ∷ []
hexadecimal_step n h small =
    spelled n ∙ (spell_next 63 n [] h ∙ (spell_enough 62 63 (n / 16) (last_glyph n ∷ []) (omega arith) (omega arith)
    ∙ (spell-append 64 (n / 16) (last_glyph n ∷ []) ∙ ap (λ (x : List ℕ). x ++ last_glyph n ∷ []) (sym (spelled (n / 16))))))

-- a number below 16 is one digit
pub hexadecimal_digit : (n : ℕ) → n < 16 → digits 16 false n ≡ digit_glyph false n ∷ []
hexadecimal_digit n h = hex_one_digit false n h

-- ---- digits are no line feeds

glyph_is_none : (d : ℕ) → nat_eq (digit_glyph false d) 10 ≡ false
glyph_is_none d = grind (arith, nat_tests)

none_in_spelled : (k n : ℕ) (later : List ℕ) → list_any (λ b. nat_eq b 10) later ≡ false
    → list_any (λ b. nat_eq b 10) (spell k n later) ≡ false
none_in_spelled zero n later h = h
none_in_spelled (suc k) n later h =
    let more : list_any (λ b. nat_eq b 10) (last_glyph n ∷ later) ≡ false = rw (glyph_is_none (n % 16)) h in
    elim (below_or_not n) [
      | inl l ↦ rw (spell_last k n later l) more
      | inr l ↦ rw (spell_next k n later l) (none_in_spelled k (n / 16) (last_glyph n ∷ later) more)
    ]

pub no_line_feed : (n : ℕ) → list_any (λ b. nat_eq b 10) (digits 16 false n) ≡ false
no_line_feed n = rw (spelled n) (none_in_spelled 64 n [] refl)
