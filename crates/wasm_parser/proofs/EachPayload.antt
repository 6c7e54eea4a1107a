-- Where a walk over all payloads of a stream is, and what each call of `next` says of the stream's reading.
use Rattle.std.proofs.Common.{◌≡◌, ℕ, ◌^◌, ◌<◌, ◌≤◌, Bool, true, false, List, [], ◌∷◌, ◌++◌, length, take, drop, Some, None, Result, Ok}
use Rattle.std.proofs.Common.{Err, refl, sym, subst, ◌∙◌, arith, append-nil}
use Rattle.std.proofs.lemmas.List.{take-append-drop, length-take-le}
use Rattle.wasm_base.specs.FaultAt.{fault_at}
use Rattle.wasm_base.specs.declared.error.Error.{Error}
use Rattle.wasm_frames.specs.Along.{Along, ReadingBegins, Came}
use Rattle.wasm_frames.specs.Answer.{refuses, reports}
use Rattle.wasm_grammar.specs.Content.{fault}
use Rattle.wasm_parser.specs.ParseAll.{Walk, walk_over, consumed_between, YieldsAnswer, NextPayload}
use Rattle.wasm_parser.specs.ParseAnswer.{report_of, ItemsBegin}
use Rattle.wasm_frames.specs.ParserState.{initial_state}
use Rattle.wasm_grammar.specs.Reading.{Event, last_event, Reading}
use Rattle.wasm_parser.specs.declared.payload.Payload.{Payload}
use Rattle.wasm_frames.proofs.Along.{answers_go_along}
use Rattle.wasm_base.specs.Features.{all_features}

-- The walk has yielded these events, which are the first of the stream's reading; or all of it, if the walk is over.
pub record WalkedTo (stream : List ℕ) (it : Walk) (events : List Event) : Type 0 where
  pub going : it.ended ≡ false → Along 0 all_features stream it.state it.bytes events
  pub over : it.ended ≡ true → Reading stream 0 all_features events

pub walk_begun : (stream : List ℕ) (it : Walk) → it ≡ walk_over (initial_state 0 all_features) stream → WalkedTo stream it []
walk_begun stream it e = subst (λ (w : Walk). WalkedTo stream w []) (sym e)
    (record {
      going = λ g. answers_go_along.more 0 all_features [] (initial_state 0 all_features) [] [] stream
          (answers_go_along.begins 0 all_features);
      over = λ o. cc;
    })

-- the payload of an event arrived
pub record PayloadCame (stream : List ℕ) (it : Walk) (events : List Event) (payload : Payload) : Type 0 where
  pub event : Event
  pub report : event.report ≡ report_of payload
  pub items : ItemsBegin payload
  pub walked : WalkedTo stream it (events ++ event ∷ [])

module _ (stream : List ℕ) (it next : Walk) (events : List Event) (w : WalkedTo stream it events) (small : length stream < 2 ^ 64) where
  -- a walk that gave something was going
  is_going : (b : Bool) (x : Result Payload Error) → it.ended ≡ b → NextPayload it (Some x) next → it.ended ≡ false
  is_going false x e n = e
  is_going true x e n = let none = (n.over e).0 in cc

  module _ (payload : Payload) (n : NextPayload it (Some (Ok payload)) next) where
    going : it.ended ≡ false
    going = is_going it.ended (Ok payload) refl n

    gave : YieldsAnswer it (Some (Ok payload)) next
    gave = n.going going

    there : consumed_between it next ≤ length it.bytes
    there = (answers_go_along.consumes it.state next.state true it.bytes (reports (report_of payload) (consumed_between it next))
        gave.0.gives).0

    came : Came 0 all_features true stream events (take (consumed_between it next) it.bytes) (report_of payload) next.state
        (drop (consumed_between it next) it.bytes)
    came =
        answers_go_along.answers 0 all_features stream it.state it.bytes events true
        (reports (report_of payload) (consumed_between it next))
        (take (consumed_between it next) it.bytes) next.state (drop (consumed_between it next) it.bytes) (w.going going)
        (omega (arith, small)) gave.0.gives
        (sym (take-append-drop (consumed_between it next) it.bytes)) (length-take-le (consumed_between it next) it.bytes there)

    pub payload_came : PayloadCame stream next events payload
    payload_came = record {
      event = came.event;
      report = sym came.is_report;
      items = gave.0.items;
      walked = record {
        going = λ g. subst (λ (b : List ℕ). Along 0 all_features stream next.state b (events ++ came.event ∷ [])) (sym gave.1)
            (came.goes_on (sym gave.2 ∙ g)).0;
        over = λ o. came.ends (sym gave.2 ∙ o) stream refl;
      };
    }

  -- a fault arrived: the reading's last event
  pub walk_faults : (e : Error) → NextPayload it (Some (Err e)) next
      → Reading stream 0 all_features (events ++ last_event (fault (fault_at e)) ∷ [])
  walk_faults e n =
      let g : it.ended ≡ false = is_going it.ended (Err e) refl n in
      let a : YieldsAnswer it (Some (Err e)) next = n.going g in
      (answers_go_along.answers 0 all_features stream it.state it.bytes events true (refuses (fault_at e)) [] next.state it.bytes
      (w.going g)
      (omega (arith, small))
      a.0.gives refl refl).0 stream refl

  -- nothing arrived: the walk is over
  pub walk_ends : NextPayload it None next → Reading stream 0 all_features events
  walk_ends n = by_end it.ended refl
    where
      by_end : (b : Bool) → it.ended ≡ b → Reading stream 0 all_features events
      by_end true e = w.over e
      by_end false e = absurd (n.going e)

-- the events so far are a prefix of the reading
pub walk_begins : (stream : List ℕ) (it : Walk) (events : List Event) → WalkedTo stream it events
    → ReadingBegins 0 all_features stream events
walk_begins stream it events w = by_end it.ended refl
  where
    by_end : (b : Bool) → it.ended ≡ b → ReadingBegins 0 all_features stream events
    by_end true e = record { events = events; more = []; reading = w.over e; begins = sym (append-nil events) }
    by_end false e = answers_go_along.first 0 all_features stream it.state it.bytes events true (w.going e) stream refl
