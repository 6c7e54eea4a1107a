-- What a step says of a feeder, and of the stream that it goes along.
use Rattle.wasm_streams.proofs.Common.{◌≡◌, ℕ, ◌+◌, ◌^◌, ◌<◌, Bool, true, false, List, [], ◌∷◌, ◌++◌, length, take, drop, refl}
use Rattle.wasm_streams.proofs.Common.{arith, length-append, ◌≤◌, append_assoc, append-nil, inl, inr, nat_tests, append_cancel_right}
use Rattle.wasm_streams.proofs.Common.{take-append-drop, Event, answers_go_along, is_last, GivesAnswer, IsRequest}
use Rattle.wasm_streams.proofs.Common.{ParserState, MovesOver, Feed, end_of, answer_of, shown, Moves, Stepped, GivesTold, Told}
use Rattle.wasm_streams.proofs.Common.{Request, Part, sym, weight, ◌-◌}
use Rattle.std.specs.Prelude.{if◌then◌else◌}
use Rattle.std.proofs.Common.{nat_eq}
use Rattle.std.proofs.lemmas.List.{drop_at}
use Rattle.wasm_streams.specs.Beside.{MayCome}
use Rattle.wasm_streams.specs.FeedersLaws.{IsAlong, SteppedOver, GoesOn, FeedersGoAlong}
use Rattle.wasm_frames.specs.Along.{Along, taken_by}
use Rattle.wasm_frames.specs.GivesNextEvent.{IsUndecided}
use Rattle.wasm_frames.specs.Answer.{state_after_result}
use Rattle.wasm_frames.proofs.ForCallers.{answers_last}
use Rattle.wasm_frames.specs.Answer.{asks}

-- the parser after a step is the one that the result says
becomes : (f g : Feed) (x : Told) → Moves f x g → g.state ≡ state_after_result f.state (answer_of x)
becomes f g x s = answers_go_along.becomes f.state g.state f.eof f.held (answer_of x) s.parses

pub gives : (old : Feed) (x : Told) (new : Feed) → Moves old x new → GivesTold old.state old.eof old.held x
gives old x new s = grind (arith, becomes, drop_at)

-- from a feeder that equals another
pub moves_from : (a b : Feed) (x : Told) (new : Feed) → a ≡ b → Moves a x new → Moves b x new
moves_from a b x new e s = rw e at s

-- ---- along a stream

-- as many bytes are shown as the result consumes
taken : (x : Told) → length (shown x) ≡ taken_by (answer_of x)
taken x = grind arith

pub stepped : (start features : ℕ) (given : List ℕ) (p : ParserState) (held : List ℕ) (events : List Event)
    (a : Along start features given p held events) (eof : Bool) (x : Told) (new : ParserState) (rest : List ℕ)
    → start + length given < 2 ^ 64
    → GivesAnswer p eof held (answer_of x) new → held ≡ shown x ++ rest → Stepped start features eof given events x new rest
stepped start features given p held events a eof x new rest l r w = search (answers_go_along.answers, taken)

-- after the last result nothing is passed, and nothing is shown
pub none_passed : (p new : ParserState) (eof : Bool) (held : List ℕ) (x : Told) → GivesAnswer p eof held (answer_of x) new
    → is_last (answer_of x) ≡ true → shown x ≡ []
none_passed p new eof held (Part report bytes) a l = grind (arith, empty, answers_go_along.consumes)
  where
    empty : (xs : List ℕ) → nat_eq (length xs) 0 ≡ true → xs ≡ []
    empty [] e = refl
    empty (b ∷ xs) e = absurd (grind (arith, nat_tests))
none_passed p new eof held _ a l = refl

nothing_shown : (f g : Feed) (x : Told) → Moves f x g → is_last (answer_of x) ≡ true → shown x ≡ []
nothing_shown f g x s l = none_passed f.state g.state f.eof f.held x s.parses l

-- the parser has passed what is shown
passes : (p new : ParserState) (eof : Bool) (held : List ℕ) (x : Told) → GivesAnswer p eof held (answer_of x) new
    → new.offset ≡ p.offset + length (shown x)
passes p new eof held x a = grind (arith, none_passed)

-- what is held after a step ends where it did before
pub ends : (f g : Feed) (x : Told) → Moves f x g → end_of g ≡ end_of f
ends f g x s = grind (arith, passes, length-append)

again : (f g h : Feed) (x y : Told) → is_last (answer_of x) ≡ true → Moves f x g → Moves g y h
    → answer_of x ≡ answer_of y
again f g h x y l s t =
    let same : f.held ≡ g.held = grind (arith, nothing_shown) in
    answers_go_along.again f.state g.state h.state f.eof f.held (answer_of x) (answer_of y) l s.parses
    (grind arith)

-- ---- a request

-- a request changes nothing, and is undecided
module _ (f g : Feed) (hint : ℕ) (s : Moves f (Request hint) g) where
  stays : g.state ≡ f.state
  stays = answers_go_along.becomes f.state g.state f.eof f.held (asks hint) s.parses

  -- and no work is done
  pub weighs_same : weight g ≡ weight f
  weighs_same =
      let held : f.held ≡ g.held = s.shows in
      λ i. (2 ^ 64 - (stays i).offset) + ((2 ^ 64 - ((stays i).offset + length (sym held i))) + (if s.eof i then 0 else 1))

  pub asked : IsUndecided g.state g.eof g.held hint
  asked = grind (arith, answers_go_along.becomes, answers_go_along.asks)

-- ---- a step over a chunk

-- a step over a chunk is a step of the stream that goes on with it, and then the feeder was given what it took
steps_over : (start features : ℕ) (given : List ℕ) (f g : Feed) (piece : List ℕ) (events : List Event) (x : Told)
    (taken : ℕ) → IsAlong start features given f events → start + length (given ++ piece) < 2 ^ 64 → MovesOver f piece x taken g
    → SteppedOver start features given f piece events x taken g
steps_over start features given f g piece events x taken a l s = record {
  steps = search (stepped, answers_go_along.more);
  takes = λ later b. record {
    prefix = b.prefix;
    is_after = b.is_after;
    whole = append_cancel_right (given ++ take taken piece) (b.prefix ++ g.held) (drop taken piece)
        (search (append_assoc, take-append-drop));
    has_features = b.has_features;
    listed = b.listed;
  };
}

-- a step is a step over no bytes
over_none : (f g : Feed) (x : Told) → length f.held ≤ f.stored → Moves f x g → MovesOver f [] x 0 g
over_none f g x l s = grind (arith, append-nil, nothing_shown, length-append)

is_decided : (x : Told) → is_last (answer_of x) ≡ true → IsRequest (answer_of x) → ⊥
is_decided x l r = grind arith

-- what decided the last result decides each later one
again_over : (f g k h : Feed) (piece more : List ℕ) (one two : Told) (taken later : ℕ)
    → is_last (answer_of one) ≡ true → MovesOver f piece one taken g → GoesOn g k → MayCome k more → end_of k + length more < 2 ^ 64
    → MovesOver k more two later h → answer_of one ≡ answer_of two
again_over f g k h piece more one two taken later l s goes may below t =
    answers_go_along.again f.state g.state h.state k.eof (g.held ++ more) (answer_of one) (answer_of two) l
    (stays f.eof k.eof refl refl) (grind (arith, state, held))
  where
    state : GoesOn g k → k.state ≡ g.state
    state (inl e) = rw e refl
    state (inr e) = rw e refl

    held : GoesOn g k → k.held ≡ g.held
    held (inl e) = rw e refl
    held (inr e) = rw e refl

    -- the end of input stays
    eof : GoesOn g k → f.eof ≡ true → k.eof ≡ true
    eof (inl e) ended = cc
    eof (inr e) ended = rw e refl

    last : GivesAnswer f.state f.eof g.held (answer_of one) g.state
    last = s.stays l

    fits : f.state.offset + length (g.held ++ more) < 2 ^ 64
    fits =
        grind (arith, passes, last, none_passed, state, held, length-append)

    stays : (before now : Bool) → f.eof ≡ before → k.eof ≡ now → GivesAnswer f.state k.eof (g.held ++ more) (answer_of one) g.state
    stays false now e n = answers_last f.state g.state g.held more (answer_of one)
        (rw e at last) (is_decided one l) fits k.eof
    stays true now e n = grind (arith, eof, append-nil, last)

pub feeders_go_along : FeedersGoAlong
feeders_go_along = record {
  begins = answers_go_along.begins;
  pushes = λ start features given f events piece a. answers_go_along.more start features given f.state f.held events piece a;
  finishes = λ start features given f events a. a;
  steps = λ start features given f g events result a l s. stepped start features given f.state f.held events a f.eof result g.state g.held l
      s.parses s.shows;
  steps_over = steps_over;
  over_none = over_none;
  shows_some = λ f g report bytes s goes. answers_go_along.takes_some f.state g.state f.eof f.held (length bytes) report s.parses goes;
  asks = asked;
  becomes = becomes;
  again = again;
  again_over = again_over;
}
