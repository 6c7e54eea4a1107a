-- That what a step returns beside a chunk is what it returns on all of the chunk.
use Rattle.wasm_streams.proofs.Common.{◌≡◌, ℕ, ◌+◌, ◌<◌, Bool, true, false, List, [], ◌∷◌, ◌++◌, length, drop, refl, sym}
use Rattle.wasm_streams.proofs.Common.{ap, subst₂, ◌∙◌, arith, length-append, ◌-◌, ◌≤◌, append_assoc, append-nil, append_cancel_right}
use Rattle.wasm_streams.proofs.Common.{length-drop, drop-drop, waiting, answers_go_along, is_last, GivesAnswer}
use Rattle.wasm_streams.proofs.Common.{IsRequest, ParserState, grammar_of, beside, seen, lending, MovesOver, feed_of, Feed, answer_of}
use Rattle.wasm_streams.proofs.Common.{shown, is_request, Moves, Cursor, Told}
use Rattle.wasm_streams.specs.Beside.{SeesEnough, AreEnough, ReadsEnough, MakesReady, Bounds, HasDecided, StaysIdle}
use Rattle.wasm_grammar.specs.Waiting.{enough as decides_all}
use Rattle.wasm_frames.specs.ParserLaws.{AnswersLast}
use Rattle.wasm_streams.proofs.Stepping.{moves_from, none_passed}
use Rattle.wasm_frames.specs.Answer.{Answer, asks, refuses, reports}

-- ---- enough bytes

-- bytes for which one result is no request are enough
pub enough : (law : AnswersLast) (p : ParserState) (bytes : List ℕ) (one : Answer) (new : ParserState)
    → GivesAnswer p false bytes one new → (IsRequest one → ⊥) → AreEnough p bytes
enough law p bytes one new a decided more l other last b = law p last bytes more other b
    (grind (arith, decides, answers_go_along.once)) l false
  where
    decides : (x y : Answer) → x ≡ y → (IsRequest x → ⊥) → IsRequest y → ⊥
    decides (asks hint) y e goes r = goes tt
    decides (reports report consumed) (asks hint) e goes r = cc
    decides (reports report consumed) (reports other other_consumed) e goes r = r
    decides (reports report consumed) (refuses x) e goes r = r
    decides (refuses x) (asks hint) e goes r = cc
    decides (refuses x) (reports report consumed) e goes r = r
    decides (refuses x) (refuses y) e goes r = r

-- no bytes more change nothing
pub nothing_more : (p : ParserState) (eof : Bool) (bytes more : List ℕ) → more ≡ [] → SeesEnough p eof bytes more
nothing_more p eof bytes more e answer new a = rw (ap (λ (l : List ℕ). bytes ++ l) e ∙ append-nil bytes) a

-- ---- bytes that were stored

bounded_by : (old : Feed) (piece stored : List ℕ) (count : ℕ) → count ≤ length piece → stored ++ drop count piece ≡ old.held ++ piece
    → length old.held ≤ old.stored → Bounds old piece (length stored + (length piece - count))
bounded_by old piece stored count within same stores =
    let sizes = ap (λ (l : List ℕ). length l) same in
    grind (arith, length-append, length-drop)

idle_by : (old : Feed) (piece stored : List ℕ) (count : ℕ) (c : Cursor) → c.mark ≡ 0 → stored ++ drop count piece ≡ old.held ++ piece
    → length old.held ≤ old.stored → (HasDecided old piece → count ≡ 0) → HasDecided old piece → StaysIdle old count stored c
idle_by old piece stored count c first same stores idle h = grind (arith, append_cancel_right)

-- a cursor at the first stored byte, where the stored bytes and the rest of the chunk are the held bytes and the chunk
pub ready : (old : Feed) (piece stored : List ℕ) (count : ℕ) (c : Cursor) → count ≤ length piece → c.mark ≡ 0
    → stored ++ drop count piece ≡ old.held ++ piece → c.parser ≡ old.state → c.is_finished ≡ old.eof → c.wants_more ≡ old.wants_more
    → SeesEnough c.parser c.is_finished stored (drop count piece) → length old.held ≤ old.stored → (HasDecided old piece → count ≡ 0)
    → MakesReady old piece count stored c
ready old piece [] count c within first same state eof wants sees stores idle = record {
  bounded = search bounded_by;
  within = within;
  same = grind (arith, append-nil);
  enough = search nothing_more;
  starts = λ e. first;
  idle = search idle_by;
}
ready old piece (x ∷ xs) count c within first same state eof wants sees stores idle = record {
  bounded = search bounded_by;
  within = within;
  same = cc;
  enough = rw first sees;
  starts = λ e. first;
  idle = search idle_by;
}

-- ---- a step

-- what the cursor says of a step is what the feeder beside the chunk does
pub both : {f : Feed} {stored piece items rest bytes : List ℕ} (old new : Cursor) {x : Told} → lending stored piece old ≡ f
    → ReadsEnough stored piece old → bytes ≡ seen items rest → items ≡ stored → rest ≡ piece
    → GivesAnswer old.parser old.is_finished (drop old.mark bytes) (answer_of x) new.parser
    → drop old.mark bytes ≡ shown x ++ drop new.mark bytes → new.is_finished ≡ old.is_finished → new.wants_more ≡ is_request x
    → Moves f x (lending stored piece new)
both {f} {stored} {piece} {items} {rest} {bytes} old new {x} from sees read items_are rest_is parses shows finished wants =
    moves_from (lending stored piece old) f x (lending stored piece new) from (grind (arith, same, append_assoc))
  where
    same : bytes ≡ seen stored piece
    same = cc

-- what is known of a step in these bytes
pub steps_in : (bytes : List ℕ) (old new : Cursor) (x : Told)
    → GivesAnswer old.parser old.is_finished (drop old.mark bytes) (answer_of x) new.parser → drop old.mark bytes ≡ shown x
    ++ drop new.mark bytes
    → new.is_finished ≡ old.is_finished → new.wants_more ≡ is_request x → Moves (feed_of bytes old) x (feed_of bytes new)
steps_in bytes old new x parses shows finished wants = grind arith

-- ---- a step over a chunk

-- where more bytes are asked for, those that are there don't decide
pub undecided : (p new : ParserState) (bytes : List ℕ) (one : Answer) (hint : ℕ) → GivesAnswer p false bytes one new
    → one ≡ asks hint → waiting (grammar_of p) bytes ≡ decides_all → ⊥
undecided p new bytes one hint a is e = grind (arith, answers_go_along.asks)

-- bytes that decide are no request
decided : (p new : ParserState) (bytes : List ℕ) (x : Told) → GivesAnswer p false bytes (answer_of x) new
    → waiting (grammar_of p) bytes ≡ decides_all → is_request x ≡ false
decided p new bytes x a e = grind (arith, undecided)

last_is_no_request : (x : Told) → is_last (answer_of x) ≡ true → is_request x ≡ false
last_is_no_request x l = grind arith

-- A step over a chunk: `old` is the cursor once this many bytes of the chunk are stored, and `new` the cursor after the step.
module _ (f : Feed) (piece rest stored items bytes : List ℕ) (count : ℕ) (old new : Cursor) (x : Told)
    (r : MakesReady f piece count stored old) (left : rest ≡ drop count piece) (read : bytes ≡ seen items rest) (items_are : items ≡ stored)
    (parses : GivesAnswer old.parser old.is_finished (drop old.mark bytes) (answer_of x) new.parser)
    (shows : drop old.mark bytes ≡ shown x ++ drop new.mark bytes) (finished : new.is_finished ≡ old.is_finished)
    (wants : new.wants_more ≡ is_request x) (moves : new.mark ≡ old.mark + length (shown x)) where
  stepped : Moves (beside f piece) x (lending stored (drop count piece) new)
  stepped = search both

  reads : bytes ≡ seen stored rest
  reads = read ∙ ap (λ (l : List ℕ). seen l rest) items_are

  -- the feeder is where the parser was, and at the end of input if it was
  state : old.parser ≡ f.state
  state = ap (λ (g : Feed). g.state) r.same

  eof : old.is_finished ≡ f.eof
  eof = ap (λ (g : Feed). g.eof) r.same

  -- this many bytes of the rest were taken, and this is stored then
  pub over : (taken : ℕ) (kept : List ℕ) (last : Cursor) → beside (feed_of kept last) (drop taken rest) ≡ lending stored rest new
      → taken ≤ length rest → (new.wants_more ≡ true → taken ≡ length rest) → length kept ≤ length stored + length rest
      → (new.wants_more ≡ false → (stored ≡ [] → new.mark ≡ 0) → drop last.mark kept ≡ drop new.mark (seen stored rest))
      → (new.wants_more ≡ false → 0 < length stored → (taken ≡ 0) × (length kept ≡ length stored))
      → MovesOver f piece x (count + taken) (feed_of kept last)
  over taken kept last takes within whole bounded stays idle = record {
    moves = rw same stepped;
    asks = λ e. let all = whole (wants ∙ e) in omega (arith, all, size, sizes, r.within);
    stays = λ l. subst₂ (λ (p q : ParserState). GivesAnswer p f.eof (drop last.mark kept) (answer_of x) q) state
        (sym (ap (λ (g : Feed). g.state) takes))
        (grind (arith, held, eof));
    stores = omega (arith, length-drop last.mark kept);
    bounded = grind (arith, size, sizes);
    idle = grind arith;
  }
    where
      size : length rest ≡ length (drop count piece)
      size = rw left refl

      sizes : length (drop count piece) ≡ length piece - count
      sizes = length-drop count piece

      same : beside (feed_of kept last) (drop (count + taken) piece) ≡ lending stored (drop count piece) new
      same = grind (arith, drop-drop)

      held : is_last (answer_of x) ≡ true → drop last.mark kept ≡ drop old.mark bytes
      held l =
          grind (arith, none_passed, last_is_no_request, reads)

      no_request : HasDecided f piece → StaysIdle f count stored old → is_request x ≡ false
      no_request h i = grind (arith, decided, state, eof, reads)
