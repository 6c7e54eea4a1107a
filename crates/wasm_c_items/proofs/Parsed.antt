-- What an event says of the parser that returned it.
use Rattle.std.proofs.Common.{◌≡◌, ℕ, Bool, List}
use Rattle.wasm_frames.proofs.ForCallers.{asks_for_some, asks_where_open, consumes, faults_within, gives_next}
use Rattle.wasm_frames.specs.Answer.{Answer, GivesAnswer}
use Rattle.wasm_frames.specs.ParserState.{ParserState}
use Rattle.wasm_c_items.specs.Events.{ParsesPlain, answer_event}
use Rattle.wasm_c_items.specs.declared.events.PlainEvent.{PlainEvent}

pub parses_plain : (base : ℕ) (p new : ParserState) (eof : Bool) (bytes : List ℕ) (r : Answer) (event : PlainEvent)
    → GivesAnswer p eof bytes r new → event ≡ answer_event base p.offset r → ParsesPlain base p eof bytes event new
parses_plain base p new eof bytes r event answers is = record {
  answer = r;
  answers = answers;
  gives = gives_next _ _ _ _ _ answers;
  consumes = consumes _ _ _ _ _ answers;
  asks_for_some = asks_for_some _ _ _ _ _ answers;
  waits = asks_where_open _ _ _ _ _ answers;
  faults = faults_within _ _ _ _ _ answers;
  is_event = is;
}
