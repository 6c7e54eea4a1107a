-- Where a walk over the parts of a stream is, and how it ends.
use Rattle.wasm_examples.proofs.Common.{◌≡◌, ℕ, ◌^◌, ◌<◌, true, false, List, [], ◌∷◌, ◌++◌, length, take, drop, Ok, Err, refl, sym, ap}
use Rattle.wasm_examples.proofs.Common.{subst, ◌∙◌, arith, take-append-drop, length-take-le, fault_at, all_features, Error, Along, Came}
use Rattle.wasm_examples.proofs.Common.{is_end, refuses, reports, ParserState, initial_state, ended, Event, last_event, Reading}
use Rattle.wasm_examples.proofs.Common.{report_of, ParseAnswer, Payload, answers_go_along, IsEndOf}
use Rattle.wasm_parser.specs.declared.payload.Chunk.TheVariants.{Parsed}
use Rattle.wasm_parser.specs.declared.payload.Payload.TheVariants.{End}

-- only the end is the last
pub goes_on : (payload : Payload) → ((at : ℕ) → payload ≡ End at → ⊥) → is_end (report_of payload) ≡ false
goes_on (End at) h = absurd (h at refl)
goes_on other h = refl

-- The walk has passed what was read as these events, and has this left of the stream.
pub record Passed (stream : List ℕ) (p : ParserState) (rest : List ℕ) : Type 0 where
  pub events : List Event
  pub is_along : Along 0 all_features stream p rest events

pub begun : (stream : List ℕ) → Passed stream (initial_state 0 all_features) stream
begun stream = record {
  events = [];
  is_along = answers_go_along.more 0 all_features [] (initial_state 0 all_features) [] [] stream
      (answers_go_along.begins 0 all_features);
}

module _ {stream : List ℕ} {p : ParserState} {rest : List ℕ} (w : Passed stream p rest) (small : length stream < 2 ^ 64) where
  module _ {new : ParserState} {consumed : ℕ} {payload : Payload} (a : ParseAnswer p true rest (Ok (Parsed consumed payload)) new) where
    came : Came 0 all_features true stream w.events (take consumed rest) (report_of payload) new (drop consumed rest)
    came =
        answers_go_along.answers 0 all_features stream p rest w.events true (reports (report_of payload) consumed) (take consumed rest) new
        (drop consumed rest) w.is_along (omega (arith, small)) a.gives (sym (take-append-drop consumed rest)) (length-take-le consumed rest
        (answers_go_along.consumes p new true rest (reports (report_of payload) consumed) a.gives).0)

    pub moved : is_end (report_of payload) ≡ false → Passed stream new (drop consumed rest)
    moved h = record { events = w.events ++ came.event ∷ []; is_along = (came.goes_on h).0 }

    pub ends : {at : ℕ} → payload ≡ End at → IsEndOf stream (Ok at)
    ends {at} e =
        let is : is_end (report_of payload) ≡ true = ap (λ (x : Payload). is_end (report_of x)) e in
        let (offset, last) = came.last is in
        let same : last_event (ended offset) ≡ last_event (ended at) = ap (λ (x : _). record { report = x; consumed = [] })
        (sym (ap (λ (x : Event). x.report) last) ∙ (sym came.is_report ∙ ap report_of e)) in
        (w.events, subst (λ (x : Event). Reading stream 0 all_features (w.events ++ x ∷ [])) (last ∙ same) (came.ends is stream refl))

  pub stops : {new : ParserState} {e : Error} → ParseAnswer p true rest (Err e) new → IsEndOf stream (Err e)
  stops {new} {e} a = (
    w.events,
    (answers_go_along.answers 0 all_features stream p rest w.events true (refuses (fault_at e)) [] new rest w.is_along
        (omega (arith, small)) a.gives refl refl).0 stream refl,
  )
