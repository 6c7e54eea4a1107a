-- What a call of `next` returns.
use Rattle.wasm_frames.proofs.Common.{◌≡◌, ℕ, ◌+◌, ◌^◌, ◌<◌, ◌≤◌, Bool, true, false, List, [], length, refl, arith, nat_eq, cond, Some}
use Rattle.wasm_frames.proofs.Common.{fault_at, at_offset, Error, OffsetRange, Guarded-header, Guarded-inside_at, Ending, fault, ended}
use Rattle.wasm_frames.proofs.Common.{Tile, tile, final, SectionContext, verdict, header_grammar, section_grammar, inside}
use Rattle.wasm_frames.proofs.Common.{Waiting, enough, asked_at_section, waiting, tile_report, Report, GivesFrame, answer_by}
use Rattle.wasm_frames.proofs.Common.{answer_in_time, answer_to, answer_in, is_end, state_after_result, ParserState, grammar_of}
use Rattle.wasm_frames.proofs.Common.{known_context, ended_state, is_at_section, is_lacking, state_after_tile, stream_end}
use Rattle.wasm_frames.proofs.Common.{NextFrame, NeedMoreData, Parsed, Fault, lt-ltb}
use Rattle.wasm_base.specs.declared.fault.Fault.TheVariants.{FunctionWithoutCode, DataCountWithoutData}
use Rattle.wasm_grammar.specs.Grammar.{end_at_section, Shape}
use Rattle.wasm_grammar.specs.Waiting.{asked}
use Rattle.wasm_grammar.proofs.endings.Waiting.{tile_decided}
use Rattle.wasm_grammar.proofs.parts.Verdicts.{Guarded}

-- the content of a result below the largest offset
below : (p : ParserState) (eof : Bool) (rest : List ℕ) → p.offset + length rest < 2 ^ 64 → answer_to p eof rest
    ≡ answer_in_time eof (waiting (grammar_of p) rest) (answer_by p (verdict (grammar_of p) rest))
below p eof rest l = rw (lt-ltb (p.offset + length rest) (2 ^ 64) l) refl

-- ---- how the stream ends where a section may start

-- the whole rest is nothing
at_end : (p : ParserState) → p.expects_header ≡ false → nat_eq (p.bodies + p.code_bytes) 0 ≡ true → verdict (grammar_of p) []
    ≡ final (end_at_section (known_context p) p.offset)
unfolding section_grammar verdict
at_end p h c = rw (h, c) refl

-- what is returned for no bytes, by what the end is
answer_at_end : (p : ParserState) (e : Ending) → p.offset < 2 ^ 64 → is_at_section p ≡ true → end_at_section (known_context p) p.offset ≡ e
    → answer_to p true [] ≡ answer_by p (final e)
answer_at_end p e l h x = grind (arith, below, at_end)

-- functions with no code
pub functions_alone : (p : ParserState) (x : Error) → p.offset < 2 ^ 64 → is_at_section p ≡ true → true ≡ is_lacking p.functions p.codes
    → fault_at x ≡ at_offset FunctionWithoutCode p.offset → GivesFrame p true [] (Fault x) p
functions_alone p x l h a f =
    let e = answer_at_end p (fault (at_offset FunctionWithoutCode p.offset)) l h (rw (← a) refl) in
    record { answer = cc; state = refl }

-- data that is announced and missing
pub data_count_alone : (p : ParserState) (x : Error) → p.offset < 2 ^ 64 → is_at_section p ≡ true → false ≡ is_lacking p.functions p.codes
    → true ≡ is_lacking p.data_counts p.datas → fault_at x ≡ at_offset DataCountWithoutData p.offset → GivesFrame p true [] (Fault x) p
data_count_alone p x l h a b f =
    let e = answer_at_end p (fault (at_offset DataCountWithoutData p.offset)) l h (rw (← a, ← b) refl) in
    record { answer = cc; state = refl }

-- nothing is lacking
pub nothing_lacks : (p q : ParserState) (o : ℕ) → o ≡ p.offset → p.offset < 2 ^ 64 → is_at_section p ≡ true → false
    ≡ is_lacking p.functions p.codes → false ≡ is_lacking p.data_counts p.datas → q ≡ ended_state p
    → GivesFrame p true [] (Parsed (stream_end (ended o)) 0) q
nothing_lacks p q o e l h a b s =
    let end = answer_at_end p (ended p.offset) l h (rw (← a, ← b) refl) in
    record { answer = cc; state = s }

-- ---- requests for more

-- past the top of the offsets
pub past_the_top : (p : ParserState) (eof : Bool) (rest : List ℕ) (x : Error) → 2 ^ 64 ≤ p.offset + length rest → fault_at x
    ≡ at_offset OffsetRange p.offset → GivesFrame p eof rest (Fault x) p
past_the_top p eof rest x l f = grind arith

-- where a section may start
asks_at : (rest : List ℕ) (p : SectionContext) (o hint : ℕ) → asked_at_section rest ≡ Some hint → asked (waiting (section_grammar p o) rest)
    ≡ Some hint
unfolding section_grammar waiting
asks_at rest p o hint h = grind arith

-- what is asked for is what is wanted
asks_for : (p : ParserState) (rest : List ℕ) (hint : ℕ) → p.offset + length rest < 2 ^ 64 → asked (waiting (grammar_of p) rest) ≡ Some hint
    → GivesFrame p false rest (NeedMoreData hint) p
asks_for p rest hint l h = grind (arith, below)

pub asks_at_section : (p : ParserState) (rest : List ℕ) (hint : ℕ) → p.offset + length rest < 2 ^ 64 → is_at_section p ≡ true
    → asked_at_section rest ≡ Some hint → GivesFrame p false rest (NeedMoreData hint) p
asks_at_section p rest hint l h a = asks_for p rest hint l (grind (arith, asks_at))

-- ---- what was read is returned

-- a tile that was read does not wait
guarded_at : (h : Bool) (p : ParserState)
    → Guarded (cond h (header_grammar p.offset) (inside (known_context p) p.bodies p.code_bytes p.offset))
guarded_at h p = grind (arith, Guarded-header, Guarded-inside_at)

pub decided_tile : (p : ParserState) (rest : List ℕ) (t : Tile) → verdict (grammar_of p) rest ≡ tile t → waiting (grammar_of p) rest
    ≡ enough
decided_tile p rest t v = tile_decided (grammar_of p) (guarded_at p.expects_header p) rest t v

-- where bytes decide, it makes no difference whether more come
decided : (p : ParserState) (eof : Bool) (rest : List ℕ) → p.offset + length rest < 2 ^ 64 → waiting (grammar_of p) rest ≡ enough
    → answer_to p eof rest ≡ answer_by p (verdict (grammar_of p) rest)
decided p eof rest l w = grind (arith, below)

-- what is reported of a tile is no end
pub goes_on : (features from to : ℕ) (shape : Shape) → is_end (tile_report features from to shape) ≡ false
goes_on features from to shape = grind arith

pub gives_tile : (p q : ParserState) (eof : Bool) (rest : List ℕ) (report : Report) (consumed : ℕ) (t : Tile)
    → p.offset + length rest < 2 ^ 64 → verdict (grammar_of p) rest ≡ tile t → consumed ≡ length t.bytes
    → report ≡ tile_report p.features p.offset (p.offset + length t.bytes) t.shape → q ≡ state_after_tile p t
    → GivesFrame p eof rest (Parsed report consumed) q
gives_tile p q eof rest report consumed t l v n same s =
    let d = decided p eof rest l (decided_tile p rest t v) in
    let more = goes_on p.features p.offset (p.offset + length t.bytes) t.shape in
    grind arith

-- a fault, or a request for the bytes that it hints at
pub gives_refused : (p : ParserState) (eof : Bool) (rest : List ℕ) (r : NextFrame) (w : Waiting) (e : Error)
    → p.offset + length rest < 2 ^ 64 → verdict (grammar_of p) rest ≡ final (fault (fault_at e)) → waiting (grammar_of p) rest ≡ w
    → answer_in r ≡ answer_in_time eof w (answer_by p (final (fault (fault_at e)))) → p ≡ state_after_result p (answer_in r)
    → GivesFrame p eof rest r p
gives_refused p eof rest r w e l v s a u = record { answer = grind (arith, below); state = u }
