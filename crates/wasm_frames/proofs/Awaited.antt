-- What a parser asks for while the end of a part is missing: as many bytes as the part has more than came.
use Rattle.wasm_frames.proofs.Common.{◌≡◌, ℕ, ◌+◌, ◌-◌, ◌^◌, ◌<◌, ◌≤◌, Bool, true, false, List, ◌++◌, length, refl, arith, cond, nat_eq}
use Rattle.wasm_frames.proofs.Common.{nat_lt, lt-ltb, Verdict, header_grammar, inside, Waiting, enough, wants, waiting, answer_by}
use Rattle.wasm_frames.proofs.Common.{answer_in_time, answer_to, ParserState, grammar_of, known_context}
use Rattle.wasm_frames.specs.Answer.{asks}
use Rattle.wasm_grammar.proofs.endings.Awaited.{Alike, Lacks, alike_header, alike_inside}

module _ (p : ParserState) where
  by_verdict : (v : Verdict) (hint : ℕ) → answer_by p v ≡ asks hint → ⊥
  by_verdict v hint e = grind arith

  by_waiting : (eof : Bool) (w : Waiting) (v : Verdict) (hint : ℕ) → answer_in_time eof w (answer_by p v) ≡ asks hint
      → (need : ℕ) × (w ≡ wants need hint)
  by_waiting true w v hint e = absurd (by_verdict v hint e)
  by_waiting false enough v hint e = absurd (by_verdict v hint e)
  by_waiting false (wants need h) v hint e = (need, cc)

  -- what is requested is missing
  asked_is : (eof : Bool) (rest : List ℕ) (hint : ℕ) → answer_to p eof rest ≡ asks hint
      → (need : ℕ) × (waiting (grammar_of p) rest ≡ wants need hint)
  asked_is eof rest hint e = by_top (nat_lt (p.offset + length rest) (2 ^ 64)) refl
    where
      by_top : (b : Bool) → nat_lt (p.offset + length rest) (2 ^ 64) ≡ b → (need : ℕ) × (waiting (grammar_of p) rest ≡ wants need hint)
      by_top true t = by_waiting eof _ _ hint (rw t at e)
      by_top false t = let z = rw t at e in cc

  alike_by : (first xs ys : List ℕ) → 8 ≤ length first → (b : Bool)
      → Alike (cond b (header_grammar p.offset) (inside (known_context p) p.bodies p.code_bytes p.offset)) (first ++ xs) (first ++ ys)
  alike_by first xs ys eight true = alike_header p.offset first xs ys eight
  alike_by first xs ys eight false =
      alike_inside (known_context p) p.bodies p.code_bytes p.offset first xs ys eight (nat_eq (p.bodies + p.code_bytes) 0)

  pub awaits : (eof : Bool) (first xs ys : List ℕ) (hint : ℕ) → 8 ≤ length first → answer_to p eof (first ++ xs) ≡ asks hint → 2 ≤ hint
      → length (first ++ ys) < length (first ++ xs) + hint → p.offset + length (first ++ ys) < 2 ^ 64
      → answer_to p false (first ++ ys) ≡ asks (length (first ++ xs) + hint - length (first ++ ys))
  unfolding Alike
  awaits eof first xs ys hint eight e two l fits =
      let a : (need : ℕ) × (waiting (grammar_of p) (first ++ xs) ≡ wants need hint) = asked_is eof (first ++ xs) hint e in
      let r : Lacks a.0 hint (first ++ xs) (first ++ ys) (waiting (grammar_of p) (first ++ ys)) =
      alike_by first xs ys eight p.expects_header a.0 hint a.1 two l in
      rw (lt-ltb _ _ fits, r.1, r.0) refl
