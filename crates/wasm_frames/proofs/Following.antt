-- What a call of a parser says of the reading of a stream.
use Rattle.wasm_frames.proofs.Common.{◌≡◌, ℕ, ◌+◌, ◌≤◌, Bool, true, false, List, [], ◌∷◌, ◌++◌, length, refl, sym, ap}
use Rattle.wasm_frames.proofs.Common.{subst, subst₂, ◌∙◌, arith, length-append, append-nil, inl, inr, nat_eq, cond, take, take_at, ◌⊎◌}
use Rattle.wasm_frames.proofs.Common.{FaultAt, verdict-more, header_end, inside_end, Grown, grows, Ending, fault, ended, consumed_by}
use Rattle.wasm_frames.proofs.Common.{Tile, Verdict, tile, final, verdict, header_grammar, body_grammar, section_grammar, stream_end, Event}
use Rattle.wasm_frames.proofs.Common.{event_of, last_event, Reading, bytes_of, grammar, Waiting, enough, wants, waiting}
use Rattle.wasm_frames.proofs.Common.{ParserState, grammar_of, known_context, ended_state, IsStateAfter}
use Rattle.wasm_frames.specs.Answer.{Answer, GivesAnswer, refuses, reports}
use Rattle.wasm_grammar.specs.NextEvent.{NextEvent}
use Rattle.wasm_frames.specs.GivesNextEvent.{GivesEvent, GivesNextEvent, MayBe}
use Rattle.wasm_frames.specs.ParserLaws.{SomeNextEvent}
use Rattle.wasm_grammar.proofs.readings.NextEvents.{event_at, comes_next, next_there}
use Rattle.wasm_frames.proofs.AnswerTables.{Answers, AnswersOn, as_table}
use Rattle.wasm_frames.proofs.StateLaws.{grammar_same, state_goes_on}

-- the same by a parser that is there
next_is : (p : ParserState) (start : ℕ) (prefix rest : List ℕ) (s : IsStateAfter p start prefix) (v : Verdict) → verdict (grammar_of p) rest
    ≡ v → (before later : List Event) (e : Event) → Reading (prefix ++ rest) start p.features (before ++ e ∷ later)
    → consumed_by before ≡ prefix → e ≡ event_at start p.features s.tiles v
next_is p start prefix rest s v q before later e r c =
    comes_next start p.features s.tiles rest v s.faultless (rw (grammar_same p start prefix s) at q)
    before later e
    (grind arith) (c ∙ sym s.is_prefix)

-- at the end of a stream no bytes of a code section remain
ended_at : (h b : Bool) (p : ParserState) (bytes : List ℕ) (o : ℕ) → nat_eq (p.bodies + p.code_bytes) 0 ≡ b
    → verdict (cond h (header_grammar p.offset) (cond b (section_grammar (known_context p) p.offset)
    (body_grammar p.bodies p.code_bytes p.offset))) bytes ≡ final (ended o) → p.bodies + p.code_bytes ≡ 0
ended_at h b p bytes o n v = grind (arith, header_end, inside_end)

-- a parser that reported the end is where it was
at_the_end : (p : ParserState) (start : ℕ) (prefix : List ℕ) → IsStateAfter p start prefix → p.bodies + p.code_bytes ≡ 0
    → IsStateAfter (ended_state p) start prefix
at_the_end p start prefix s z = grind arith

-- the event that comes next in every stream that these bytes may be the first of
record IsNext (p : ParserState) (eof : Bool) (start : ℕ) (prefix bytes rest : List ℕ) (e : Event) : Type 0 where
  s : IsStateAfter p start prefix
  may_be : MayBe eof bytes rest
  before : List Event
  later : List Event
  reading : Reading (prefix ++ rest) start p.features (before ++ e ∷ later)
  consumed : consumed_by before ≡ prefix

-- what bytes decide is what it is in the whole
decides_rest : (p : ParserState) (eof : Bool) (bytes rest : List ℕ) → MayBe eof bytes rest → (eof ≡ true)
    ⊎ (waiting (grammar_of p) bytes ≡ enough) → verdict (grammar_of p) rest ≡ verdict (grammar_of p) bytes
decides_rest p eof bytes rest m d = grind (arith, verdict-more)

module _ (p new : ParserState) (eof : Bool) (start : ℕ) (prefix bytes : List ℕ) where
  -- the returned tile
  gives_tile : (s : IsStateAfter p start prefix) (t : Tile) → verdict (grammar_of p) bytes ≡ tile t → (r : Answer)
      → Answers p (tile t) r new → GivesEvent (event_of p.features (start + length (bytes_of s.tiles)) t) p eof start prefix bytes r new
  gives_tile s t v (reports report consumed) a =
      let v' : verdict (grammar start s.tiles) bytes ≡ tile t = rw (grammar_same p start prefix s) at v in
      let g : Grown start s.tiles bytes t = grows start s.tiles bytes t s.faultless v' in grind (arith, take_at, state_goes_on)
  gives_tile s t v _ a = absurd a

  gives_last : IsStateAfter p start prefix → (end : Ending) → verdict (grammar_of p) bytes ≡ final end → (r : Answer)
      → Answers p (final end) r new → GivesEvent (last_event end) p eof start prefix bytes r new
  gives_last s (ended o) v (reports report consumed) a = (
    a.1,
    a.0,
    subst (λ (n : ℕ). take n bytes ≡ []) (sym a.0) refl,
    subst₂ (λ (q : ParserState) (x : List ℕ). IsStateAfter q start x) (sym a.2) (sym (append-nil prefix))
        (search (at_the_end, ended_at)),
    ap (λ (q : ParserState). q.features) a.2,
  )
  gives_last s (fault f) v (refuses g) a = (ap (λ (x : FaultAt). stream_end (fault x)) (sym a.0), refl, a.1)
  gives_last s _ v _ a = absurd a

-- on all the rest of a stream
gives_at : (p new : ParserState) (eof : Bool) (start : ℕ) (prefix bytes rest : List ℕ) (s : IsStateAfter p start prefix)
    (r : Answer) (v : Verdict) → verdict (grammar_of p) bytes ≡ v → verdict (grammar_of p) rest ≡ v → Answers p v r new
    → (before later : List Event) (e : Event) → Reading (prefix ++ rest) start p.features (before ++ e ∷ later) → consumed_by before
    ≡ prefix → GivesEvent e p eof start prefix bytes r new
gives_at p new eof start prefix bytes rest s r (tile t) u q a before later e reading c =
    rw (next_is p start prefix rest s (tile t) q before later e reading c) (gives_tile p new eof start prefix bytes s t u r a)
gives_at p new eof start prefix bytes rest s r (final end) u q a before later e reading c =
    rw (next_is p start prefix rest s (final end) q before later e reading c) (gives_last p new eof start prefix bytes s end u r a)

gives_decided : (p new : ParserState) (eof : Bool) (start : ℕ) (prefix bytes rest : List ℕ) (e : Event)
    (n : IsNext p eof start prefix bytes rest e) (r : Answer) → (eof ≡ true) ⊎ (waiting (grammar_of p) bytes ≡ enough)
    → Answers p (verdict (grammar_of p) bytes) r new → GivesEvent e p eof start prefix bytes r new
gives_decided p new eof start prefix bytes rest e n r d a =
    gives_at p new eof start prefix bytes rest n.s r (verdict (grammar_of p) bytes) refl (decides_rest p eof bytes rest n.may_be d) a
    n.before n.later e n.reading n.consumed

gives_on : (p new : ParserState) (eof : Bool) (start : ℕ) (prefix bytes rest : List ℕ) (e : Event)
    (n : IsNext p eof start prefix bytes rest e) (r : Answer) (w : Waiting) → waiting (grammar_of p) bytes ≡ w
    → AnswersOn eof w p (verdict (grammar_of p) bytes) r new → GivesEvent e p eof start prefix bytes r new
gives_on p new true start prefix bytes rest e n r w q a = gives_decided p new true start prefix bytes rest e n r (inl refl) a
gives_on p new false start prefix bytes rest e n r enough q a = gives_decided p new false start prefix bytes rest e n r (inr q) a
gives_on p new false start prefix bytes rest e n r (wants need hint) q a = grind arith

-- these bytes are no longer than all the rest
may_fit : (eof : Bool) (bytes rest : List ℕ) → MayBe eof bytes rest → length bytes ≤ length rest
may_fit eof bytes rest m = grind (arith, length-append)

pub gives_next : (p new : ParserState) (eof : Bool) (bytes : List ℕ) (r : Answer) → GivesAnswer p eof bytes r new
    → GivesNextEvent p eof bytes r new
gives_next p new eof bytes r h s next =
    let o : p.offset ≡ s.start + length s.prefix = s.is_after.offset in
    let k : length bytes ≤ length s.rest = may_fit eof bytes s.rest s.may_be in
    let l = s.below in
    let read : Reading (s.prefix ++ s.rest) s.start p.features (next.before ++ next.event ∷ next.later) = grind arith in
    gives_on p new eof s.start s.prefix bytes s.rest next.event (record {
      s = s.is_after;
      may_be = s.may_be;
      before = next.before;
      later = next.later;
      reading = read;
      consumed = next.consumed;
    }) r (waiting (grammar_of p) bytes) refl
    ((as_table p new eof bytes r h).within (omega (arith, o, k, l)))

pub some_next_event : SomeNextEvent
some_next_event p start features prefix rest events s r =
    subst (NextEvent events) s.is_prefix (next_there start features s.tiles rest events s.faultless
    (grind arith))
