-- How far a loop over the payloads of a stream has come, by their fold from a start value.
use Rattle.wasm_examples.proofs.Common.{◌≡◌, ℕ, ◌^◌, ◌<◌, List, [], ◌∷◌, ◌++◌, length, map, Some, None, Result, Ok, Err, sym, ap, ◌∙◌}
use Rattle.wasm_examples.proofs.Common.{inl, inr, refl, append_assoc, append-nil, ◌⊎◌, fault_at, all_features, Error, ParserState}
use Rattle.wasm_examples.proofs.Common.{initial_state, fault, Report, Event, last_event, stream_end, Reading, report_of, ItemsBegin}
use Rattle.wasm_examples.proofs.Common.{Payload, PayloadCame, WalkedTo, payload_came, reading_same, walk_begins, walk_begun, walk_ends}
use Rattle.wasm_examples.proofs.Common.{walk_faults, unless_refused, after_all, ReadsTo}
use Rattle.wasm_parser.specs.ParseAll.{Walk, walk_over, NextPayload, event_report}

module _ {S R : Type 0} (step : S → Report → Result S R) where
  -- the payloads so far fold to this from the start value
  pub record Came (begin : S) (stream : List ℕ) (it : Walk) (s : S) : Type 0 where
    pub events : List Event
    pub walked : WalkedTo stream it events
    pub made : (later : List Event) → after_all step begin (map event_report (events ++ later))
        ≡ after_all step s (map event_report later)

  pub begun : {begin s : S} {stream : List ℕ} {it walk : Walk} {p : ParserState} → it ≡ walk → walk ≡ walk_over p stream
      → p ≡ initial_state 0 all_features → s ≡ begin → Came begin stream it s
  begun {begin} {s} {stream} {it} is walks new same = record {
    events = [];
    walked = walk_begun stream it (is ∙ (walks ∙ ap (λ (p : ParserState). walk_over p stream) new));
    made = λ later. ap (λ (b : S). after_all step b (map event_report later)) (sym same);
  }

module _ {S R : Type 0} {step : S → Report → Result S R} {begin : S} {stream : List ℕ} {it : Walk} {s : S}
    (w : Came step begin stream it s) (small : length stream < 2 ^ 64) where
  abbrev all_after : List Event → Result S R
  all_after events = after_all step begin (map event_report events)

  module _ {next : Walk} {given : Result Payload Error} (n : NextPayload it (Some given) next) where
    module _ {payload : Payload} (was : given ≡ Ok payload) where
      abbrev came : PayloadCame stream next w.events payload
      came = payload_came stream it next w.events w.walked small payload (rw was at n)

      further : (later : List Event) → all_after ((w.events ++ came.event ∷ []) ++ later)
          ≡ unless_refused (step s (report_of payload)) (λ t. after_all step t (map event_report later))
      further later =
          ap all_after (append_assoc w.events (came.event ∷ []) later)
          ∙ (w.made (came.event ∷ later)
          ∙ ap (λ (r : Report). unless_refused (step s r) (λ t. after_all step t (map event_report later))) came.report)

      -- a payload arrived, and was taken
      pub taken : {t : S} → (ItemsBegin payload → step s (report_of payload) ≡ Ok t) → Came step begin stream next t
      taken h = record {
        events = w.events ++ came.event ∷ [];
        walked = came.walked;
        made = λ later. further later ∙ rw (h came.items) refl;
      }

      -- what refuses it refuses all
      pub not_taken : {M : Type 0} {r : R} → (ItemsBegin payload → M ⊎ (step s (report_of payload) ≡ Err r))
          → M ⊎ ReadsTo step begin stream (Err r)
      not_taken h =
          let b = walk_begins stream next (w.events ++ came.event ∷ []) came.walked in
          elim (h came.items) [
            | inl memory ↦ inl memory
            | inr e ↦ inr (record {
              events = b.events;
              reading = b.reading;
              made = ap all_after b.begins ∙ (further b.more ∙ rw e refl);
            })
          ]

    -- a fault arrived: the reading's last event
    pub not_read : {x : Error} {r : R} → given ≡ Err x → step s (stream_end (fault (fault_at x))) ≡ Err r
        → ReadsTo step begin stream (Err r)
    not_read {x} was h = record {
      events = w.events ++ last_event (fault (fault_at x)) ∷ [];
      reading = walk_faults stream it next w.events w.walked small x (rw was at n);
      made = w.made (last_event (fault (fault_at x)) ∷ []) ∙ rw h refl;
    }

  -- nothing arrived: the walk is over
  pub nothing_came : {next : Walk} → NextPayload it None next → ReadsTo step begin stream (Ok s)
  nothing_came {next} n = record {
    events = w.events;
    reading = walk_ends stream it next w.events w.walked small n;
    made = ap all_after (sym (append-nil w.events)) ∙ w.made [];
  }

-- there is no other reading
pub of_reading : {S R : Type 0} {step : S → Report → Result S R} {begin : S} {stream : List ℕ} {end : Result S R}
    → ReadsTo step begin stream end → (events : List Event) → Reading stream 0 all_features events
    → after_all step begin (map event_report events) ≡ end
of_reading {step} {begin} {stream} r events reading =
    ap (λ e. after_all step begin (map event_report e)) (reading_same stream 0 all_features events r.events reading r.reading) ∙ r.made
