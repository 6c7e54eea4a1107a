-- Where a stream may end.
use Rattle.wasm_grammar.proofs.Common.{arith, ◌≡◌, Bool, true, cond, List, [], ℕ, None, take, drop, Number, number, VarU32, Ending, ended}
use Rattle.wasm_grammar.proofs.Common.{SectionContext, end_at_section, check, bytes, final, after, Grammar, u32_field, section_start}
use Rattle.wasm_grammar.proofs.Common.{Verdict, after_number, verdict, header_grammar, section_grammar, body_grammar}

-- the stream doesn't end within this
abbrev pub NoEnd : Grammar → Type 0
NoEnd (check e next) = NoEnd next
NoEnd (u32_field o next) = (v k : ℕ) → NoEnd (next v k)
NoEnd (bytes n o next) = (b : List ℕ) → NoEnd (next b)
NoEnd (section_start o e next) = ⊥
NoEnd _ = Unit {0}

-- how a stream ends after bytes of a tile is how it ends there
pub after_final : (prefix : List ℕ) (v : Verdict) (e : Ending) → after prefix v ≡ final e → v ≡ final e
after_final prefix v e f = grind arith

-- no end after a number, if there is none in what follows
end_number : (o : ℕ) (xs : List ℕ) (n : Number) (next : ℕ → ℕ → Verdict) (p : ℕ) → ((v k : ℕ) → next v k ≡ final (ended p) → ⊥)
    → after_number o xs n next ≡ final (ended p) → ⊥
end_number o xs n next p e f = grind (arith, after_final)

-- what has no end within doesn't end
no_end : (g : Grammar) → NoEnd g → (d : List ℕ) (p : ℕ) → verdict g d ≡ final (ended p) → ⊥
unfolding verdict
no_end (check None next) h d p e = no_end next h d p e
no_end (u32_field o next) h d p e = end_number o d (number VarU32 d) (λ v k. verdict (next v k) (drop k d)) p
    (λ v k. no_end (next v k) (h v k) (drop k d) p) e
no_end (bytes n o next) h d p e = grind (arith, no_end (next (take n d)) (h (take n d)) (drop n d) p, after_final)
no_end (section_start o e next) h d p z = h
no_end _ h d p e = cc

-- the stream doesn't end at its start
pub header_end : (o : ℕ) (d : List ℕ) (p : ℕ) → verdict (header_grammar o) d ≡ final (ended p) → ⊥
unfolding header_grammar
header_end o d p e = no_end (header_grammar o) (grind arith) d p e

-- where a section may come, a stream ends only if nothing follows, and as it may there
start_end : (o : ℕ) (x : Ending) (next : ℕ → Grammar) → ((id : ℕ) → NoEnd (next id)) → (d : List ℕ) (p : ℕ)
    → verdict (section_start o x next) d ≡ final (ended p) → (d ≡ []) × (x ≡ ended p)
unfolding verdict
start_end o x next e d p f = grind (arith, no_end, after_final)

-- a stream ends at its end only where no body is missing, and only if it may
pub inside_end : (b : Bool) (q : SectionContext) (m l o : ℕ) (d : List ℕ) (p : ℕ)
    → verdict (cond b (section_grammar q o) (body_grammar m l o)) d ≡ final (ended p) → (b ≡ true) × (d ≡ [])
    × (end_at_section q o ≡ ended p)
unfolding section_grammar body_grammar
inside_end b q m l o d p e = grind (arith, no_end, start_end)
