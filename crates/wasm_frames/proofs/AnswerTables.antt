-- What a call returns by what comes next: the equation of `GivesAnswer`, case by case.
use Rattle.wasm_frames.proofs.Common.{◌≡◌, ℕ, ◌+◌, ◌^◌, ◌<◌, ◌≤◌, Bool, true, false, List, length, refl, arith, ltb-true}
use Rattle.wasm_frames.proofs.Common.{nat_lt, ltb-false, FaultAt, at_offset, OffsetRange, fault, ended, Verdict, tile}
use Rattle.wasm_frames.proofs.Common.{final, verdict, stream_end, tile_report, Waiting, wants, waiting, answer_by, answer_in_time}
use Rattle.wasm_frames.proofs.Common.{answer_to, state_after_result, ParserState, grammar_of, ended_state, state_after_tile}
use Rattle.wasm_frames.specs.Answer.{Answer, GivesAnswer, asks, refuses, reports}

-- ---- the tables

-- The parser returns what comes next and consumes it; at a fault its state is unchanged, and after the end of the stream
-- it is at the end.
abbrev pub Answers : ParserState → Verdict → Answer → ParserState → Type 0
Answers old (tile t) (reports report consumed) new =
    (consumed ≡ length t.bytes) × (report ≡ tile_report old.features old.offset (old.offset + length t.bytes) t.shape)
    × (new ≡ state_after_tile old t)
Answers old (final (ended offset)) (reports report consumed) new = (consumed ≡ 0)
    × (report ≡ stream_end (ended offset)) × (new ≡ ended_state old)
Answers old (final (fault f)) (refuses g) new = (g ≡ f) × (new ≡ old)
Answers old _ _ new = ⊥

-- The result is this fault, and the state is unchanged.
abbrev pub IsFaultAlone : FaultAt → ParserState → Answer → ParserState → Type 0
IsFaultAlone f old (refuses g) new = (g ≡ f) × (new ≡ old)
IsFaultAlone f old _ new = ⊥

-- More bytes are requested, with this hint, and the state is unchanged.
abbrev pub AsksFor : (hint : ℕ) → ParserState → Answer → ParserState → Type 0
AsksFor hint old (asks asked) new = (asked ≡ hint) × (new ≡ old)
AsksFor hint old _ new = ⊥

-- At the end of the input the parser returns what comes next. If more bytes may come it does so exactly if the bytes so
-- far decide it, and otherwise requests more.
abbrev pub AnswersOn : (eof : Bool) → Waiting → ParserState → Verdict → Answer → ParserState → Type 0
AnswersOn false (wants need hint) old v result new = AsksFor hint old result new
AnswersOn _ _ old v result new = Answers old v result new

-- both cases: bytes that pass the largest offset, and others
pub record AnswersAsTable (old : ParserState) (eof : Bool) (rest : List ℕ) (result : Answer)
    (new : ParserState) : Type 0 where
  pub past_the_top : 2 ^ 64 ≤ old.offset + length rest → IsFaultAlone (at_offset OffsetRange old.offset) old result new
  pub within : old.offset + length rest < 2 ^ 64 → AnswersOn eof (waiting (grammar_of old) rest) old
      (verdict (grammar_of old) rest) result new

-- ---- from the equation to the table

module _ (p new : ParserState) where
  by_verdict : (r : Answer) (v : Verdict) → r ≡ answer_by p v → new ≡ state_after_result p r → Answers p v r new
  by_verdict r v a s = grind arith

  on_table : (eof : Bool) (w : Waiting) (v : Verdict) (r : Answer) → r ≡ answer_in_time eof w (answer_by p v)
      → new ≡ state_after_result p r → AnswersOn eof w p v r new
  on_table eof w v r a s = grind arith

-- the result below the largest offset, and above it
answer_below : (p : ParserState) (eof : Bool) (rest : List ℕ) → p.offset + length rest < 2 ^ 64 → answer_to p eof rest
    ≡ answer_in_time eof (waiting (grammar_of p) rest) (answer_by p (verdict (grammar_of p) rest))
answer_below p eof rest l = grind arith

pub answer_past : (p : ParserState) (eof : Bool) (rest : List ℕ) → 2 ^ 64 ≤ p.offset + length rest → answer_to p eof rest
    ≡ refuses (at_offset OffsetRange p.offset)
answer_past p eof rest l = grind arith

pub as_table : (p new : ParserState) (eof : Bool) (rest : List ℕ) (r : Answer) → GivesAnswer p eof rest r new
    → AnswersAsTable p eof rest r new
as_table p new eof rest r h = grind (arith, answer_past, on_table, answer_below)

-- ---- from the table to the equation

-- a result, and the state after it
record Says (p new : ParserState) (a : Answer) (r : Answer) : Type 0 where
  says : r ≡ a
  state : new ≡ state_after_result p r

module _ (p new : ParserState) where
  from_verdict : (r : Answer) (v : Verdict) → Answers p v r new → Says p new (answer_by p v) r
  from_verdict r v a = grind arith

  from_fault : (f : FaultAt) (r : Answer) → IsFaultAlone f p r new → Says p new (refuses f) r
  from_fault f r a = grind arith

  from_on : (eof : Bool) (w : Waiting) (v : Verdict) (r : Answer) → AnswersOn eof w p v r new
      → Says p new (answer_in_time eof w (answer_by p v)) r
  from_on eof w v r a = grind (arith, from_verdict)

  from_by : (b : Bool) (eof : Bool) (rest : List ℕ) (r : Answer) → nat_lt (p.offset + length rest) (2 ^ 64) ≡ b
      → AnswersAsTable p eof rest r new → GivesAnswer p eof rest r new
  from_by true eof rest r e h =
      let l : p.offset + length rest < 2 ^ 64 = ltb-true _ _ e in
      grind (arith, from_on, answer_below)
  from_by false eof rest r e h = grind (arith, ltb-false, from_fault, answer_past)

pub from_table : (p new : ParserState) (eof : Bool) (rest : List ℕ) (r : Answer) → AnswersAsTable p eof rest r new
    → GivesAnswer p eof rest r new
from_table p new eof rest r h = from_by p new (nat_lt (p.offset + length rest) (2 ^ 64)) eof rest r refl h
