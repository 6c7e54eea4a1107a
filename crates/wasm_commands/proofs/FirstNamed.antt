-- How far a search for the first custom section with a name has come, and what is written in its place.
use Rattle.std.proofs.Common.{◌≡◌, ℕ, ◌-◌, ◌<◌, ◌^◌, Bool, true, false, List, [], ◌∷◌, ◌++◌, length, take, drop, Some, None}
use Rattle.std.proofs.Common.{Option, Ok, refl, sym, ap, ◌∙◌, arith, subst₂, append-nil, append_assoc, length-append}
use Rattle.std.proofs.lemmas.Grind.{flat_map-append}
use Rattle.std.proofs.Math.Seq.{take-append_seam}
use Rattle.std.proofs.lemmas.Bool.Decides.{nat_tests}
use Rattle.wasm_base.specs.Features.{all_features}
use Rattle.wasm_base.specs.declared.error.Error.{Error}
use Rattle.wasm_edits.specs.Stripped.{EndsWithFault}
use Rattle.wasm_frames.proofs.ForCallers.{answers_go_along}
use Rattle.wasm_frames.specs.Along.{Along, Came}
use Rattle.wasm_frames.specs.ParserState.{ParserState, initial_state}
use Rattle.wasm_grammar.specs.EventRanges.{consumed_by}
use Rattle.wasm_grammar.specs.Reading.{Event, Report}
use Rattle.wasm_streams.proofs.ForCallers.{stepped}
use Rattle.wasm_streams.specs.Cursors.{feed_of}
use Rattle.wasm_streams.specs.Step as tells
use Rattle.wasm_streams.specs.Step.{Moves, answer_of}
use Rattle.wasm_streams.specs.declared.cursor.Cursor.{Cursor}
use Rattle.wasm_commands.proofs.Finding.{none_more}
use Rattle.wasm_commands.specs.Finding.{has_name, named_count}
use Rattle.wasm_commands.specs.FirstNamed.{EventComes, GoesOn, IsAround, IsAroundIfAny, IsPartOf, PartComes, Sought, first_found}
use Rattle.wasm_commands.specs.declared.around.Around.{Around}
use Rattle.wasm_commands.specs.declared.around.Part.{Part}

-- ---- one part

-- the bytes before those that are held
front_is : (stream front held : List ℕ) → stream ≡ front ++ held → take (length stream - length held) stream ≡ front
front_is stream front held is =
    let n : length stream - length held ≡ length front = (let l = ap (λ (xs : List ℕ). length xs) is in
    omega (arith, l, length-append front held)) in
    rw n (rw is (take-append_seam front held))

-- the bytes after one more event
one_consumed : (events : List Event) (e : Event) (held : List ℕ)
    → consumed_by (events ++ e ∷ []) ++ held ≡ consumed_by events ++ (e.consumed ++ held)
one_consumed events e held =
    ap (λ (xs : List ℕ). xs ++ held) (flat_map-append (λ (x : Event). x.consumed) events (e ∷ [])
    ∙ ap (λ (xs : List ℕ). consumed_by events ++ xs) (append-nil e.consumed))
    ∙ append_assoc (consumed_by events) e.consumed held

-- fewer bytes are held after a part that isn't the end
pub part_goes_on : (name stream : List ℕ) (old new : Cursor) (report : Report) (bytes : List ℕ) (around : Around) (part : Option Part)
    → Moves (feed_of stream old) (tells.Part report bytes) (feed_of stream new) → IsPartOf name report around part
    → GoesOn stream old (Ok part) new
part_goes_on name stream old new report bytes around (Some part) s i =
    let c = answers_go_along.consumes old.parser new.parser old.is_finished (drop old.mark stream)
    (answer_of (tells.Part report bytes)) s.parses in
    let shows = s.shows in
    let n = i.0 in
    grind (arith, length-append, nat_tests)
part_goes_on name stream old new report bytes around None s i = tt

module _ (name stream : List ℕ) (events : List Event) (old new : Cursor)
    (a : Along 0 all_features stream old.parser (drop old.mark stream) events)
    (l : length stream < 2 ^ 64) (eof : old.is_finished ≡ true) where
  -- what arrived with a part
  came : (report : Report) (bytes : List ℕ) → Moves (feed_of stream old) (tells.Part report bytes) (feed_of stream new)
      → Came 0 all_features true stream events bytes report new.parser (drop new.mark stream)
  came report bytes s =
      rw eof at (stepped 0 all_features stream old.parser (drop old.mark stream) events a old.is_finished (tells.Part report bytes)
      new.parser (drop new.mark stream) (omega (arith, l)) s.parses s.shows)

  pub part_comes : (report : Report) (bytes : List ℕ) (around : Around) (part : Option Part)
      → Moves (feed_of stream old) (tells.Part report bytes) (feed_of stream new) → IsPartOf name report around part
      → around.before.now ≡ take (length stream - length (drop old.mark stream)) stream → around.after.now ≡ drop new.mark stream
      → PartComes name stream events (Ok part) new
  part_comes report bytes around None s i front after =
      let u : Came 0 all_features true stream events bytes report new.parser (drop new.mark stream) = came report bytes s in
      grind arith
  part_comes report bytes around (Some part) s (n, named, same) front after =
      let u : Came 0 all_features true stream events bytes report new.parser (drop new.mark stream) = came report bytes s in
      let along = (u.goes_on n).0 in
      record {
        event = u.event;
        named = ap (has_name name) (sym u.is_report) ∙ sym named;
        along = along;
        front = ap (λ (x : Around). x.before.now) same ∙ (front ∙ front_is stream (consumed_by events) (drop old.mark stream)
            (answers_go_along.consumed 0 all_features stream old.parser (drop old.mark stream) events a));
        whole = answers_go_along.consumed 0 all_features stream new.parser (drop new.mark stream) (events ++ u.event ∷ []) along
            ∙ (one_consumed events u.event (drop new.mark stream)
            ∙ ap (λ (xs : List ℕ). consumed_by events ++ (u.event.consumed ++ xs))
            (sym (ap (λ (x : Around). x.after.now) same ∙ after)));
      }

  pub fault_comes : (e : Error) → Moves (feed_of stream old) (tells.Stop e) (feed_of stream new) → EndsWithFault stream e
  fault_comes e s =
      let u = stepped 0 all_features stream old.parser (drop old.mark stream) events a old.is_finished (tells.Stop e) new.parser
      (drop new.mark stream) (omega (arith, l)) s.parses s.shows in
      (events, grind arith)

-- ---- the search

pub begun : (name stream : List ℕ) (cursor : Cursor) → cursor.parser ≡ initial_state 0 all_features → drop cursor.mark stream ≡ stream
    → Sought name stream cursor None
begun name stream cursor s h = record {
  events = [];
  along = subst₂ (λ (p : ParserState) (held : List ℕ). Along 0 all_features stream p held []) (sym s) (sym h)
      (answers_go_along.more 0 all_features [] (initial_state 0 all_features) [] [] stream (answers_go_along.begins 0 all_features));
  so_far = refl;
}

-- one more event after those among which the section was found
still_around : (name stream : List ℕ) (events : List Event) (e : Event) (around : Around) → IsAround name stream events around
    → IsAround name stream (events ++ e ∷ []) around
still_around name stream events e around a = record {
  first = a.first;
  event = a.event;
  is_first = record {
    later = a.is_first.later ++ e ∷ [];
    listed = ap (λ (es : List Event). es ++ e ∷ []) a.is_first.listed
        ∙ append_assoc a.first (a.event ∷ a.is_first.later) (e ∷ []);
    named = a.is_first.named;
    before = a.is_first.before;
  };
  front = a.front;
  whole = a.whole;
}

module _ (name stream : List ℕ) (old new : Cursor) (part : Part) where
  -- no section was found before this part
  none_before : (events : List Event) → named_count name events ≡ 0 → (c : EventComes name stream events part new) → (b : Bool)
      → part.is_named ≡ b → IsAroundIfAny name stream (events ++ c.event ∷ []) (first_found None part)
  none_before events none c true is = rw is (record {
    first = events;
    event = c.event;
    is_first = record { later = []; listed = refl; named = c.named ∙ is; before = none };
    front = c.front;
    whole = c.whole;
  })
  none_before events none c false is = rw is (let more = none_more name events c.event (c.named ∙ is) in omega (arith, none, more))

  pub one_more : (found : Option Around) (s : Sought name stream old found) → PartComes name stream s.events (Ok (Some part)) new
      → Sought name stream new (first_found found part)
  one_more (Some around) s c = record {
    events = s.events ++ c.event ∷ [];
    along = c.along;
    so_far = still_around name stream s.events c.event around s.so_far;
  }
  one_more None s c = record {
    events = s.events ++ c.event ∷ [];
    along = c.along;
    so_far = none_before s.events s.so_far c part.is_named refl;
  }
