-- A part whose end is missing, by its first bytes.
use Rattle.wasm_streams.proofs.Common.{◌≡◌, ℕ, ◌+◌, ◌-◌, ◌^◌, ◌<◌, ◌≤◌, Bool, true, false, List, ◌++◌, length, take, drop, refl, sym}
use Rattle.wasm_streams.proofs.Common.{subst, arith, take-append-drop, ◌∙◌, ParserState, GivesAnswer, is_end}
use Rattle.std.proofs.lemmas.Bool.Decides.{Decides-eqb}
use Rattle.std.proofs.lemmas.Slice.Eq.{starts_is}
use Rattle.std.specs.List.{starts_with}
use Rattle.std.specs.Prelude.{nat_eq}
use Rattle.wasm_frames.proofs.ForCallers.{awaits, consumes}
use Rattle.wasm_frames.specs.Answer.{Answer, asks, reports, refuses, answer_to}
use Rattle.wasm_frames.specs.ParserState.{ended_state}
use Rattle.wasm_frames.specs.StateAfter.{state_after}
use Rattle.wasm_streams.specs.Awaited.{Recalls, IsAsked}
use Rattle.wasm_streams.specs.declared.parser.CutPart.{CutPart}

-- what begins with the first bytes of a part that is longer
pub is_missing : (p : ParserState) (part : CutPart) (bytes : List ℕ) → Recalls p part → part.offset ≡ p.offset
    → starts_with nat_eq bytes part.first ≡ true → length bytes < part.size → answer_to p false bytes ≡ asks (part.size - length bytes)
is_missing p part bytes r at s l =
    let rest = drop (length part.first) bytes in
    let e : bytes ≡ part.first ++ rest = (starts_is Decides-eqb bytes part.first _ refl).0 s in
    subst (λ b. answer_to p false b ≡ asks (part.size - length b)) (sym e) (r.missing at rest (subst (λ b. length b < part.size) e l))

-- a part of which more than one byte is missing
pub remembers : (p : ParserState) (bytes : List ℕ) (hint : ℕ) (part : CutPart) → part.offset ≡ p.offset → part.first ≡ take 8 bytes
    → 8 ≤ length part.first → IsAsked p bytes hint → 2 ≤ hint → part.size ≡ length bytes + hint → p.offset + part.size < 2 ^ 64
    → Recalls p part
remembers p bytes hint part at f eight a two s fits = record { behind = omega (arith, at); missing = λ here more l. by_first more l }
  where
    by_first : (more : List ℕ) → length (part.first ++ more) < part.size
        → answer_to p false (part.first ++ more) ≡ asks (part.size - length (part.first ++ more))
    by_first more l =
        let e : part.first ++ drop 8 bytes ≡ bytes = rw f (take-append-drop 8 bytes) in
        let n : length (part.first ++ drop 8 bytes) ≡ length bytes = rw e refl in
        let m : length (part.first ++ drop 8 bytes) + hint ≡ part.size = omega (arith, n, s) in
        rw m at (awaits p a.0 part.first (drop 8 bytes) more hint eight (rw e a.1) two (omega (arith, n, l, s)) (omega (arith, l, fits)))

-- ---- a parser that moved on

ahead : (p q : ParserState) (part : CutPart) → Recalls p part → p.offset < q.offset → Recalls q part
ahead p q part r l = record { behind = omega (arith, r.behind, l); missing = λ here. absurd (omega (arith, r.behind, l, here)) }

not_zero : (n : ℕ) → nat_eq n 0 ≡ false → 0 < n
not_zero n e = grind arith

-- after a call
pub recalls_still : (p q : ParserState) (eof : Bool) (rest : List ℕ) (given : Answer) (part : CutPart) → GivesAnswer p eof rest given q
    → Recalls p part → Recalls q part
recalls_still p q eof rest (asks hint) part g r = rw g.state r
recalls_still p q eof rest (refuses f) part g r = rw g.state r
recalls_still p q eof rest (reports report consumed) part g r = by_end (is_end report) refl
  where
    by_end : (b : Bool) → is_end report ≡ b → Recalls q part
    by_end true e =
        let s : q ≡ ended_state p = rw e at g.state in
        rw s (record { behind = r.behind; missing = r.missing })
    by_end false e =
        let s : q ≡ state_after p (p.offset + consumed) report = rw e at g.state in
        let some : 0 < consumed = not_zero consumed ((consumes _ _ _ _ _ g).1 ∙ e) in
        ahead p q part r (rw s (omega (arith, some)))
