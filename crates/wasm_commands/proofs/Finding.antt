-- How far a search for a custom section has come.
use Rattle.std.proofs.Common.{◌≡◌, ℕ, ◌+◌, ◌^◌, ◌<◌, Bool, true, false, List, [], ◌∷◌, ◌++◌, length, Some}
use Rattle.std.proofs.Common.{Ok, Err, refl, ap, ◌∙◌, arith}
use Rattle.wasm_base.specs.Features.{all_features}
use Rattle.wasm_base.specs.declared.error.Error.{Error}
use Rattle.wasm_custom.specs.Custom.{Custom}
use Rattle.wasm_frames.specs.ParserState.{initial_state}
use Rattle.wasm_grammar.specs.Reading.{Event}
use Rattle.wasm_parser.specs.ParseAll.{Walk, NextPayload, walk_over}
use Rattle.wasm_parser.specs.ParseAnswer.{report_of}
use Rattle.wasm_parser.specs.declared.payload.Payload.{Payload}
use Rattle.wasm_parser.specs.declared.payload.Payload.TheVariants.{CustomSection}
use Rattle.wasm_commands.specs.Finding.{ComesAfter, EndsBefore, has_name, named_count}
use Rattle.wasm_parser.proofs.ForCallers.{PayloadCame, WalkedTo, payload_came, walk_begins, walk_begun, walk_faults}

head_counted : (name : List ℕ) (x : Event) (xs ys : List Event) (n : ℕ) → named_count name ys ≡ named_count name xs + n
    → (b : Bool) → has_name name x.report ≡ b → named_count name (x ∷ ys) ≡ named_count name (x ∷ xs) + n
head_counted name x xs ys n h true is = rw is (omega (arith, h))
head_counted name x xs ys n h false is = rw is h

-- one more part, which has the name or not
one_more : (name : List ℕ) (events : List Event) (e : Event) → has_name name e.report ≡ true
    → named_count name (events ++ e ∷ []) ≡ named_count name events + 1
one_more name [] e is = rw is refl
one_more name (x ∷ events) e is =
    head_counted name x events (events ++ e ∷ []) 1 (one_more name events e is) (has_name name x.report) refl

pub none_more : (name : List ℕ) (events : List Event) (e : Event) → has_name name e.report ≡ false
    → named_count name (events ++ e ∷ []) ≡ named_count name events + 0
none_more name [] e is = rw is refl
none_more name (x ∷ events) e is =
    head_counted name x events (events ++ e ∷ []) 0 (none_more name events e is) (has_name name x.report) refl

-- The parts so far are these, and with the sections that may still come there are as many as wanted.
pub record Sought (name : List ℕ) (skips : ℕ) (stream : List ℕ) (it : Walk) (before : ℕ) : Type 0 where
  pub events : List Event
  pub walked : WalkedTo stream it events
  pub counted : before + named_count name events ≡ skips

pub begun : (name : List ℕ) (skips : ℕ) (stream : List ℕ) (it : Walk) → it ≡ walk_over (initial_state 0 all_features) stream
    → Sought name skips stream it skips
begun name skips stream it e = record { events = []; walked = walk_begun stream it e; counted = omega arith }

module _ (name : List ℕ) (skips : ℕ) (stream : List ℕ) (it next : Walk) (before : ℕ) (w : Sought name skips stream it before)
    (small : length stream < 2 ^ 64) where
  module _ (payload : Payload) (n : NextPayload it (Some (Ok payload)) next) where
    came : PayloadCame stream next w.events payload
    came = payload_came stream it next w.events w.walked small payload n

    is_named : (b : Bool) → has_name name (report_of payload) ≡ b → has_name name came.event.report ≡ b
    is_named b h = ap (has_name name) came.report ∙ h

    pub skipped : has_name name (report_of payload) ≡ false → Sought name skips stream next before
    skipped h =
        let more = none_more name w.events came.event (is_named false h) in
        let counted = w.counted in
        record { events = w.events ++ came.event ∷ []; walked = came.walked; counted = omega (arith, more, counted) }

    pub counted : (later : ℕ) → has_name name (report_of payload) ≡ true → before ≡ later + 1
        → Sought name skips stream next later
    counted later h is =
        let more = one_more name w.events came.event (is_named true h) in
        let counted = w.counted in
        record { events = w.events ++ came.event ∷ []; walked = came.walked; counted = omega (arith, more, counted, is) }

    pub found : (section : Custom) → report_of payload ≡ report_of (CustomSection section)
        → has_name name (report_of payload) ≡ true → before ≡ 0 → ComesAfter name skips stream section
    found section same h is =
        let counted = w.counted in
        record {
          first = w.events;
          event = came.event;
          begins = walk_begins stream next (w.events ++ came.event ∷ []) came.walked;
          is = came.report ∙ same;
          named = is_named true h;
          before = omega (arith, counted, is);
        }

  pub fault_came : (e : Error) → NextPayload it (Some (Err e)) next → EndsBefore name skips stream e
  fault_came e n =
      let counted = w.counted in
      record {
        events = w.events;
        reading = walk_faults stream it next w.events w.walked small e n;
        few = omega (arith, counted);
      }
