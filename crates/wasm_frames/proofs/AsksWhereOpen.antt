-- A parser asks for more exactly where streams differ.
use Rattle.wasm_frames.proofs.Common.{◌≡◌, ℕ, ◌+◌, ◌^◌, ◌<◌, Bool, false, List, ◌++◌, length, sym, arith, length-append}
use Rattle.wasm_frames.proofs.Common.{enough_is_decided, Verdict, verdict, Stream, grammar, Waiting, enough, wants, waiting, ParserState}
use Rattle.wasm_frames.proofs.Common.{grammar_of, IsStateAfter}
use Rattle.wasm_frames.specs.Answer.{Answer, GivesAnswer, IsRequest}
use Rattle.wasm_grammar.specs.Undecided.{TwoStreams}
use Rattle.wasm_frames.specs.AsksWhereOpen.{AsksWhereOpen}
use Rattle.wasm_grammar.proofs.endings.Undecided.{two_streams}
use Rattle.wasm_frames.proofs.AnswerTables.{Answers, AsksFor, AnswersOn, as_table}
use Rattle.wasm_frames.proofs.StateLaws.{grammar_same}

-- a result is no request
no_request : (p new : ParserState) (v : Verdict) (r : Answer) → Answers p v r new → IsRequest r → ⊥
no_request p new v r a q = grind arith

request : (hint : ℕ) (p new : ParserState) (r : Answer) → AsksFor hint p r new → IsRequest r
request hint p new r a = grind arith

asks_at : (p new : ParserState) (start : ℕ) (front came : List ℕ) (r : Answer) (s : IsStateAfter p start front)
    → Stream (front ++ came) start → start + length (front ++ came) + 2 ^ 33 < 2 ^ 64
    → (w : Waiting) → waiting (grammar start s.tiles) came ≡ w → AnswersOn false w p (verdict (grammar_of p) came) r new
    → (IsRequest r → TwoStreams start p.features front came) × (TwoStreams start p.features front came → IsRequest r)
asks_at p new start front came r s t l enough w a = (
  λ q. absurd (grind (arith, no_request)),
  λ two. absurd (two.differ (search enough_is_decided)),
)
asks_at p new start front came r s t l (wants need hint) w a = grind (arith, two_streams)

pub asks_where_open : (p new : ParserState) (eof : Bool) (came : List ℕ) (r : Answer) → GivesAnswer p eof came r new
    → AsksWhereOpen p eof came r
asks_where_open p new eof came r h e start front s t l =
    let n : length (front ++ came) ≡ length front + length came = length-append front came in
    let a : AnswersOn false (waiting (grammar_of p) came) p (verdict (grammar_of p) came) r new = grind (arith, AnswersOn, as_table) in
    asks_at p new start front came r s t l _ (rw (sym (grammar_same p start front s))) a
