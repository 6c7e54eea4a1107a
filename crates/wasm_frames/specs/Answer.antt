-- What one call of a parser returns, and the parser afterwards.
use Rattle.std.specs.Prelude.{◌≡◌, ℕ, ◌+◌, ◌≤◌, ◌^◌, Bool, true, false, List, length}
use Rattle.std.specs.Prelude.{nat_eq, nat_lt, if◌then◌else◌}
use Rattle.wasm_base.specs.FaultAt.{FaultAt, fault_at, at_offset}
use Rattle.wasm_base.specs.declared.fault.Fault.TheVariants.{OffsetRange}
use Rattle.wasm_frames.specs.ParserState.{ParserState, grammar_of, ended_state}
use Rattle.wasm_frames.specs.StateAfter.{state_after}
use Rattle.wasm_frames.specs.declared.next.NextFrame.{NextFrame}
use Rattle.wasm_frames.specs.declared.next.NextFrame.TheVariants.{Parsed, NeedMoreData, Fault}
use Rattle.wasm_grammar.specs.Content.{fault, ended}
use Rattle.wasm_grammar.specs.Grammar.{Verdict, tile, final, verdict}
use Rattle.wasm_grammar.specs.Reading.{Report, stream_end, tile_report}
use Rattle.wasm_grammar.specs.Waiting.{Waiting, enough, wants, waiting}

-- whether the end is reported
abbrev pub is_end : Report → Bool
is_end (stream_end (ended offset)) = true
is_end other = false

-- the content of a result: a request with its hint; a report, and the number of bytes that it consumes; or a fault
pub data Answer : Type 0 where
  asks : (hint : ℕ) → Answer
  reports : Report → (consumed : ℕ) → Answer
  refuses : FaultAt → Answer

-- the content of a result with this verdict
abbrev pub answer_by : ParserState → Verdict → Answer
answer_by p (tile t) =
    reports (tile_report p.features p.offset (p.offset + length t.bytes) t.shape) (length t.bytes)
answer_by p (final (ended offset)) = reports (stream_end (ended offset)) 0
answer_by p (final (fault f)) = refuses f

-- If more bytes may come and those so far do not decide, the result is a request.
abbrev pub answer_in_time : (eof : Bool) → Waiting → Answer → Answer
answer_in_time true w answer = answer
answer_in_time false enough answer = answer
answer_in_time false (wants need hint) answer = asks hint

-- the content of the result for these bytes, which are the rest of the stream if `eof`, and otherwise may be a part of
-- it
abbrev pub answer_to : ParserState → (eof : Bool) → (rest : List ℕ) → Answer
answer_to p eof rest =
    if nat_lt (p.offset + length rest) (2 ^ 64) then
    answer_in_time eof (waiting (grammar_of p) rest) (answer_by p (verdict (grammar_of p) rest)) else
    refuses (at_offset OffsetRange p.offset)

-- the state after a result with this content: after the reported part, or at the end; unchanged after a request or a
-- fault
abbrev pub state_after_result : ParserState → Answer → ParserState
state_after_result p (asks hint) = p
state_after_result p (reports report consumed) =
    if is_end report then ended_state p else state_after p (p.offset + consumed) report
state_after_result p (refuses f) = p

-- the content of what `next` returns
abbrev pub answer_in : NextFrame → Answer
answer_in (Parsed frame consumed) = reports frame consumed
answer_in (NeedMoreData hint) = asks hint
answer_in (Fault e) = refuses (fault_at e)

-- | what a call returns for all the rest of a stream, or for bytes after which more may come, by what the parser knows
--   [`answer_to`, `answer_by`, `answer_in_time`, `state_after_result`]
-- A call returned this, and the parser is then in this state, by the state before it.
pub record GivesAnswer (old : ParserState) (eof : Bool) (rest : List ℕ) (given : Answer) (new : ParserState) :
    Type 0 where
  pub answer : given ≡ answer_to old eof rest
  pub state : new ≡ state_after_result old given

-- | what `next` returns [`GivesAnswer`, `answer_in`]
-- The result of a call of `next`, and the state after it.
abbrev pub GivesFrame : (old : ParserState) (eof : Bool) (rest : List ℕ) → NextFrame → (new : ParserState) → Type 0
GivesFrame old eof rest result new = GivesAnswer old eof rest (answer_in result) new

-- What a caller made of what `next` returns, and the state after the call.
pub record GivesMade {Out : Type 0} (made : NextFrame → Out) (old : ParserState) (eof : Bool) (rest : List ℕ)
    (given : Out) (new : ParserState) : Type 0 where
  pub result : NextFrame
  pub gives : GivesFrame old eof rest result new
  pub is : given ≡ made result

-- | what a call consumes: bytes of the input, and some except at the end
-- A part consumes bytes that are there. The end consumes none, and any other part at least one.
abbrev pub Consumes : List ℕ → Answer → Type 0
Consumes rest (asks hint) = Unit {0}
Consumes rest (reports report consumed) = (consumed ≤ length rest) × (nat_eq consumed 0 ≡ is_end report)
Consumes rest (refuses f) = Unit {0}

-- | a fault lies between the parser and the end of the bytes, wherever the parser is
-- The offset of a fault is between the parser's offset and the end of the bytes.
abbrev pub FaultsWithin : ParserState → List ℕ → Answer → Type 0
FaultsWithin p rest (asks hint) = Unit {0}
FaultsWithin p rest (reports report consumed) = Unit {0}
FaultsWithin p rest (refuses f) = (p.offset ≤ f.offset) × (f.offset ≤ p.offset + length rest)

-- | after a fault or a request for more bytes the parser is unchanged
abbrev pub IsUnchanged : (old : ParserState) → Answer → (new : ParserState) → Type 0
IsUnchanged old (asks hint) new = new ≡ old
IsUnchanged old (reports report consumed) new = Unit {0}
IsUnchanged old (refuses f) new = new ≡ old

-- A request is for one byte or more.
abbrev pub AsksForSome : Answer → Type 0
AsksForSome (asks hint) = 1 ≤ hint
AsksForSome (reports report consumed) = Unit {0}
AsksForSome (refuses f) = Unit {0}

-- The result is a request for more bytes.
abbrev pub IsRequest : Answer → Type 0
IsRequest (asks hint) = Unit {0}
IsRequest (reports report consumed) = ⊥
IsRequest (refuses f) = ⊥
