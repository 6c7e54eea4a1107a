-- How far a call of the parser goes.
use Rattle.wasm_frames.proofs.Common.{◌≡◌, ℕ, ◌+◌, ◌^◌, ◌<◌, ◌≤◌, Bool, true, false, List, ◌++◌, length, refl, arith}
use Rattle.wasm_frames.proofs.Common.{length-append, inl, inr, ltb-true, nat_eq, cond, nat_lt, ltb-false, ◌⊎◌, at_offset}
use Rattle.wasm_frames.proofs.Common.{OffsetRange, waiting-asks, Guarded-header, Guarded-inside_at, verdict-more, fault, ended, Tile}
use Rattle.wasm_frames.proofs.Common.{Verdict, tile, final, verdict, header_grammar, inside, Waiting, enough, wants, waiting, is_end}
use Rattle.wasm_frames.proofs.Common.{Report, Shape, tile_report, subst, sym}
use Rattle.wasm_frames.proofs.Common.{ParserState, grammar_of, known_context}
use Rattle.wasm_frames.specs.Answer.{Answer, AsksForSome, Consumes, FaultsWithin, GivesAnswer, IsRequest, asks, reports}
use Rattle.wasm_frames.specs.ParserLaws.{AnswersLast}
use Rattle.wasm_grammar.proofs.endings.Waiting.{waiting-more}
use Rattle.wasm_grammar.proofs.parts.Guarded.{least_header, least_inside}
use Rattle.wasm_grammar.proofs.parts.Verdicts.{Cut, verdict-cut}
use Rattle.wasm_frames.proofs.AnswerTables.{IsFaultAlone, Answers, AsksFor, AnswersOn, as_table, from_table}
use Rattle.wasm_frames.specs.Frame.{IsPartOrEnd}
use Rattle.wasm_frames.proofs.Results.{goes_on}
use Rattle.wasm_frames.proofs.Bounds.{parser_fault_lies}

-- ---- tiles

-- bytes that a tile takes, and there are some
pub record Takes (xs : List ℕ) (t : Tile) : Type 0 where
  pub some : 0 < length t.bytes
  pub rest : List ℕ
  pub split : xs ≡ t.bytes ++ rest

takes_at : (h : Bool) (p : ParserState) (xs : List ℕ) (t : Tile)
    → verdict (cond h (header_grammar p.offset) (inside (known_context p) p.bodies p.code_bytes p.offset)) xs ≡ tile t → Takes xs t
takes_at true p xs t e =
    let c : Cut (header_grammar p.offset) xs t = search (verdict-cut, Guarded-header) in
    record { some = least_header p.offset xs t e; rest = c.rest; split = c.split }
takes_at false p xs t e =
    let c : Cut (inside (known_context p) p.bodies p.code_bytes p.offset) xs t = search (verdict-cut, Guarded-inside_at) in
    search least_inside

pub tile_takes : (p : ParserState) (xs : List ℕ) (t : Tile) → verdict (grammar_of p) xs ≡ tile t → Takes xs t
tile_takes p xs t e = takes_at p.expects_header p xs t e

not_zero : (n : ℕ) → 0 < n → nat_eq n 0 ≡ false
not_zero n l = grind arith

-- ---- a result, or a request

-- bytes that decide get a result, and others a request for more
abbrev pub IsOn : ParserState → (eof : Bool) (rest : List ℕ) → Answer → ParserState → Type 0
IsOn p eof rest r new =
    Answers p (verdict (grammar_of p) rest) r new ⊎ ((need : ℕ) × (hint : ℕ) × (waiting (grammar_of p) rest ≡ wants need hint)
    × AsksFor hint p r new)

module _ (p new : ParserState) (eof : Bool) (rest : List ℕ) (r : Answer) where
  pub is_on : AnswersOn eof (waiting (grammar_of p) rest) p (verdict (grammar_of p) rest) r new → IsOn p eof rest r new
  is_on a = grind arith

  -- the cases of a call: a result or a request, or bytes that pass the largest offset
  in_cases : GivesAnswer p eof rest r new → IsOn p eof rest r new ⊎ IsFaultAlone (at_offset OffsetRange p.offset) p r new
  in_cases h = by_top (nat_lt (p.offset + length rest) (2 ^ 64)) refl
    where
      by_top : (b : Bool) → nat_lt (p.offset + length rest) (2 ^ 64) ≡ b
          → IsOn p eof rest r new ⊎ IsFaultAlone (at_offset OffsetRange p.offset) p r new
      by_top true t = inl (is_on ((as_table p new eof rest r h).within (ltb-true _ _ t)))
      by_top false t = inr ((as_table p new eof rest r h).past_the_top (ltb-false _ _ t))

-- ---- what a call consumes

consumes_at : (p new : ParserState) (rest : List ℕ) (report : Report) (consumed : ℕ) (v : Verdict) → verdict (grammar_of p) rest ≡ v
    → Answers p v (reports report consumed) new → (consumed ≤ length rest) × (nat_eq consumed 0 ≡ is_end report)
consumes_at p new rest report consumed (tile t) e a =
    let k : Takes rest t = tile_takes p rest t e in
    grind (arith, length-append, not_zero, goes_on)
consumes_at p new rest report consumed (final (fault f)) e a = absurd a
consumes_at p new rest report consumed (final (ended o)) e a = grind arith

pub consumes : (p new : ParserState) (eof : Bool) (rest : List ℕ) (r : Answer) → GivesAnswer p eof rest r new → Consumes rest r
consumes p new eof rest r h = grind (arith, in_cases p new eof rest r h, consumes_at)

-- ---- what is returned is no fault

tile_is_part : (features from to : ℕ) (shape : Shape) → IsPartOrEnd (tile_report features from to shape)
tile_is_part features from to shape = grind arith

part_at : (p new : ParserState) (report : Report) (consumed : ℕ) (v : Verdict) → Answers p v (reports report consumed) new
    → IsPartOrEnd report
part_at p new report consumed (tile t) a =
    subst IsPartOrEnd (sym a.1) (tile_is_part p.features p.offset (p.offset + length t.bytes) t.shape)
part_at p new report consumed (final (ended o)) a = subst IsPartOrEnd (sym a.1) tt
part_at p new report consumed (final (fault f)) a = absurd a

pub is_part : (p new : ParserState) (eof : Bool) (rest : List ℕ) (report : Report) (consumed : ℕ)
    → GivesAnswer p eof rest (reports report consumed) new → IsPartOrEnd report
is_part p new eof rest report consumed h = grind (arith, in_cases p new eof rest (reports report consumed) h, part_at)

-- ---- where its faults are

module _ (p new : ParserState) where
  pub faults_within : (eof : Bool) (rest : List ℕ) (r : Answer) → GivesAnswer p eof rest r new → FaultsWithin p rest r
  faults_within eof rest r h = grind (arith, in_cases p new eof rest r h, parser_fault_lies)

  -- ---- a request is no final result

  pub asks_never : (hint : ℕ) (v : Verdict) → Answers p v (asks hint) new → ⊥
  asks_never hint v a = grind arith

  -- ---- what a request asks for

  pub asks_for_some : (eof : Bool) (rest : List ℕ) (r : Answer) → GivesAnswer p eof rest r new → AsksForSome r
  asks_for_some eof rest r h = grind (arith, in_cases p new eof rest r h, asks_never, waiting-asks)

-- ---- what more bytes change

-- where bytes decide, it makes no difference whether more come
decided : (eof : Bool) (w : Waiting) (p : ParserState) (v : Verdict) (r : Answer) (q : ParserState) → w ≡ enough → Answers p v r q
    → AnswersOn eof w p v r q
decided eof w p v r q e a = grind arith

-- the result on bytes that decide
answered : (p : ParserState) (eof : Bool) (rest : List ℕ) (r : Answer) (q : ParserState) → p.offset + length rest < 2 ^ 64
    → waiting (grammar_of p) rest ≡ enough → Answers p (verdict (grammar_of p) rest) r q → GivesAnswer p eof rest r q
answered p eof rest r q l w a = from_table p q eof rest r (record {
  past_the_top = λ k. absurd (omega arith);
  within = λ k. decided eof (waiting (grammar_of p) rest) p (verdict (grammar_of p) rest) r q w a;
})

-- a request is no final result
on_last : (p new : ParserState) (bytes more : List ℕ) (r : Answer) (w : Waiting) → waiting (grammar_of p) bytes ≡ w
    → AnswersOn false w p (verdict (grammar_of p) bytes) r new → ¬ IsRequest r → p.offset + length (bytes ++ more) < 2 ^ 64
    → (eof : Bool) → GivesAnswer p eof (bytes ++ more) r new
on_last p new bytes more r w e a n l eof = grind (arith, answered, waiting-more, verdict-more)

pub answers_last : AnswersLast
answers_last p new bytes more r h n l eof =
    let m = length-append bytes more in
    on_last p new bytes more r (waiting (grammar_of p) bytes) refl (grind (arith, as_table)) n l eof
