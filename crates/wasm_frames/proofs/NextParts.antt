-- What a parser reads at its offset, and what it then returns.
use Rattle.wasm_frames.proofs.Common.{◌≡◌, ℕ, ◌+◌, ◌^◌, ◌<◌, Bool, true, false, List, length, Result, Ok, Err, refl, subst, arith, nat_eq}
use Rattle.wasm_frames.proofs.Common.{◌-◌, not, Window, Place, window_over, place, Error, headed, bodied, fault, ended, Tile, Verdict, tile}
use Rattle.wasm_frames.proofs.Common.{final, Grammar, verdict, body_grammar, section_grammar, known_context, and_parts}
use Rattle.wasm_frames.proofs.Common.{tile_report, Report, GivesFrame, MatchesGrammar}
use Rattle.wasm_frames.proofs.Common.{MatchesVerdict, ParserState, grammar_of, is_at_section, state_after, NextFrame, Parsed}
use Rattle.wasm_frames.specs.ReadsPart.{IsBegun, place_of, Refuses, ReadsBody, ReadsNext, ReadsNextSection}
use Rattle.wasm_frames.specs.StateAfter.{implies_nothing}
use Rattle.wasm_frames.proofs.Results.{gives_tile, gives_refused}

-- ---- by what the parser expects

not_false : (b : Bool) → not b ≡ true → b ≡ false
not_false b e = grind arith

pub not_true : (b : Bool) → true ≡ not b → b ≡ false
not_true b e = grind arith

module _ (p : ParserState) (here after : Place) (r : Result Report Error) where
  matches : (g : Grammar) → grammar_of p ≡ g → MatchesGrammar p.offset here g r after → ReadsNext p here r after
  matches g e m = grind arith

next_body : (p : ParserState) (here after : Place) (r : Result Report Error) → p.expects_header ≡ false
    → nat_eq (p.bodies + p.code_bytes) 0 ≡ false → here.offset ≡ p.offset → ReadsBody p here r after → ReadsNext p here r after
next_body p here after r h c o m = matches p here after r (body_grammar p.bodies p.code_bytes p.offset) (rw (h, c) refl)
    (subst (λ (x : ℕ). MatchesGrammar p.offset here (body_grammar p.bodies p.code_bytes x) r after) o (m p.offset))

-- ---- a tile

-- a header is at the start of the stream, and a body in an open code section
section_at : (p : ParserState) (features from to : ℕ) (xs : List ℕ) (t : Tile) (h b : Bool) → p.expects_header ≡ h
    → nat_eq (p.bodies + p.code_bytes) 0 ≡ b → verdict (grammar_of p) xs ≡ tile t
    → implies_nothing (tile_report features from to t.shape) ≡ true → is_at_section p ≡ true
section_at p features from to xs t true b e f v n = grind (arith, headed)
section_at p features from to xs t false true e f v n = rw (e, f) refl
section_at p features from to xs t false false e f v n = grind (arith, bodied)

section_of : (p : ParserState) (here after : Place) (report : Report) → ReadsNext p here (Ok report) after
    → implies_nothing report ≡ true → is_at_section p ≡ true
section_of p here after report m n = grind (arith, section_at)

gives_at : (p q : ParserState) (eof : Bool) (here after : Place) (report : Report) (end : ℕ) (v : Verdict)
    → verdict (grammar_of p) here.rest ≡ v → MatchesVerdict p.offset here v (Ok report) after → p.offset + length here.rest < 2 ^ 64
    → here.offset ≡ p.offset → here.features ≡ p.features → end ≡ after.offset → q ≡ state_after p end report
    → GivesFrame p eof here.rest (Parsed report (end - p.offset)) q
gives_at p q eof here after report end (tile t) e m l o f at a =
    let x : after.offset ≡ here.offset + length t.bytes = rw m.0 in
    let says : report ≡ tile_report p.features p.offset (p.offset + length t.bytes) t.shape = grind arith in
    gives_tile p q eof here.rest report (end - p.offset) t l e (omega arith) says (grind arith)
gives_at p q eof here after report end (final (fault x)) e m l o f at a = absurd m
gives_at p q eof here after report end (final (ended x)) e m l o f at a = absurd m

gives_read : (p q : ParserState) (eof : Bool) (here after : Place) (report : Report) (end : ℕ) → ReadsNext p here (Ok report) after
    → p.offset + length here.rest < 2 ^ 64 → here.offset ≡ p.offset → here.features ≡ p.features → end ≡ after.offset
    → q ≡ state_after p end report → GivesFrame p eof here.rest (Parsed report (end - p.offset)) q
gives_read p q eof here after report end m l o f at a = gives_at p q eof here after report end _ refl m.0 l o f at a

-- ---- what is read of bytes where the parser is

module _ (p : ParserState) (bytes : List ℕ) (after : Place) (report : Report) where
  pub given_section : ReadsNext p (place_of p bytes) (Ok report) after → implies_nothing report ≡ true → is_at_section p ≡ true
  given_section m n = section_of p (place_of p bytes) after report m n

pub frame_given : (p q : ParserState) (eof : Bool) (bytes : List ℕ) (after : Place) (report : Report) (end : ℕ)
    → ReadsNext p (place_of p bytes) (Ok report) after → p.offset + length bytes < 2 ^ 64 → end ≡ after.offset
    → q ≡ state_after p end report → GivesFrame p eof bytes (Parsed report (end - p.offset)) q
frame_given p q eof bytes after report end m l at a = gives_read p q eof (place_of p bytes) after report end m l refl refl at a

pub fault_given : (p : ParserState) (eof : Bool) (bytes : List ℕ) (after : Place) (e : Error) (r : NextFrame)
    → ReadsNext p (place_of p bytes) (Err e) after → p.offset + length bytes < 2 ^ 64
    → IsBegun p eof bytes → Refuses eof e r → GivesFrame p eof bytes r p
fault_given p eof bytes after e r m l b f = grind (arith, gives_refused)

-- ---- where a reader of them is

pub place_at : (p : ParserState) (w : Window) (bytes : List ℕ) → w ≡ window_over p.features p.offset bytes → place w ≡ place_of p bytes
place_at p w bytes e = grind arith

section_here : (p : ParserState) → is_at_section p ≡ true → grammar_of p ≡ section_grammar (known_context p) p.offset
section_here p c = let (h, closed) = and_parts _ _ c in rw (not_false p.expects_header h, closed) refl

pub next_section : (p : ParserState) (bytes : List ℕ) (here after : Place) (r : Result Report Error) → is_at_section p ≡ true
    → here ≡ place_of p bytes → ReadsNextSection p here r after → ReadsNext p (place_of p bytes) r after
next_section p bytes here after r c at m =
    let n : ReadsNextSection p (place_of p bytes) r after = rw at at m in
    let g = section_here p c in
    (rw g (n.0 p.offset), λ begun. rw g (n.1 (begun c)))

pub next_in_code : (p : ParserState) (bytes : List ℕ) (here after : Place) (r : Result Report Error) → p.expects_header ≡ false
    → nat_eq (p.bodies + p.code_bytes) 0 ≡ false → here ≡ place_of p bytes → ReadsBody p here r after
    → ReadsNext p (place_of p bytes) r after
next_in_code p bytes here after r h c at m = next_body p (place_of p bytes) after r h c refl (rw at at m)
