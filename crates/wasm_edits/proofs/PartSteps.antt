-- What a step over a stream that is edited says of the bytes that are written.
use Rattle.wasm_edits.proofs.Common.{◌≡◌, ℕ, true, false, List, [], ◌∷◌, ◌++◌, length, refl, sym, arith, length-append}
use Rattle.wasm_edits.proofs.Common.{append-nil, ◌≤◌, ◌<◌, ap, ◌∙◌, ◌^◌, Ok, Some, None, Option, subst₂, all_features, Error, Event}
use Rattle.wasm_edits.proofs.Common.{answers_go_along, EndsWithFault, HasEdited, ReadsEdited, Feed, Moves, Ending, last_event, fault}
use Rattle.wasm_edits.proofs.Common.{fault_at}
use Rattle.std.proofs.lemmas.Bool.Decides.{nat_tests}
use Rattle.wasm_edits.proofs.EditLaws.{edited_more}
use Rattle.wasm_edits.specs.EditParts.{HoldsLess, IsEditedPart, EditedPartComes}
use Rattle.wasm_edits.proofs.StripLaws.{push_same}
use Rattle.wasm_edits.specs.Edits.{bytes_as, edited_bytes, report_fate}
use Rattle.wasm_edits.specs.declared.edits.Edit.{Edit}
use Rattle.wasm_edits.specs.declared.editing.Part.{Part}
use Rattle.wasm_streams.specs.Step.{answer_of}
use Rattle.wasm_frames.proofs.ForCallers.{reading_same}
use Rattle.wasm_grammar.specs.Content.{ended}
use Rattle.wasm_grammar.specs.Reading.{Report, stream_end}
use Rattle.wasm_frames.specs.Along.{Along, Came, ReadingBegins}
use Rattle.wasm_frames.specs.Answer.{is_end}
use Rattle.wasm_frames.specs.ParserState.{ParserState, initial_state}
use Rattle.wasm_streams.proofs.ForCallers.{stepped}
use Rattle.wasm_streams.specs.Step as tells

-- fewer bytes are held after a part that isn't the end
fewer : (f g : Feed) (report : Report) (bytes : List ℕ) → Moves f (tells.Part report bytes) g → is_end report ≡ false
    → length g.held < length f.held
fewer f g report bytes s n =
    let c = answers_go_along.consumes f.state g.state f.eof f.held (answer_of (tells.Part report bytes)) s.parses in
    grind (arith, length-append, nat_tests)

pub part_goes_on : (edits : List Edit) (f g : Feed) (report : Report) (bytes : List ℕ) (part : Option Part)
    → Moves f (tells.Part report bytes) g → IsEditedPart edits report bytes part → HoldsLess f (Ok part) g
part_goes_on edits f g report bytes (Some part) s i = fewer f g report bytes s i.0
part_goes_on edits f g report bytes None s i = tt

module _ (edits : List Edit) (stream : List ℕ) (events : List Event) (f g : Feed)
    (a : Along 0 all_features stream f.state f.held events)
    (l : length stream < 2 ^ 64) (eof : f.eof ≡ true) where
  -- what arrived with a part
  came : (report : Report) (bytes : List ℕ) → Moves f (tells.Part report bytes) g
      → Came 0 all_features true stream events bytes report g.state g.held
  came report bytes s =
      rw eof at (stepped 0 all_features stream f.state f.held events a f.eof (tells.Part report bytes) g.state g.held (omega (arith, l))
      s.parses s.shows)

  pub part_comes : (report : Report) (bytes : List ℕ) (part : Option Part) → Moves f (tells.Part report bytes) g
      → IsEditedPart edits report bytes part → EditedPartComes edits stream events (Ok part) g
  part_comes report bytes None s i =
      let u : Came 0 all_features true stream events bytes report g.state g.held = came report bytes s in
      grind arith
  part_comes report bytes (Some part) s (n, b, is) =
      let u : Came 0 all_features true stream events bytes report g.state g.held = came report bytes s in
      (u.event, u.consumed ∙ sym b, is ∙ ap (report_fate edits) u.is_report, (u.goes_on n).0)

  pub fault_comes : (e : Error) → Moves f (tells.Stop e) g → EndsWithFault stream e
  fault_comes e s =
      let u = stepped 0 all_features stream f.state f.held events a f.eof (tells.Stop e) g.state g.held (omega (arith, l))
      s.parses s.shows in
      (events, grind arith)

-- ---- the bytes that are written

-- nothing is read yet
pub none_yet : (edits : List Edit) (stream : List ℕ) (f : Feed) → f.state ≡ initial_state 0 all_features → f.held ≡ stream
    → HasEdited edits stream f []
none_yet edits stream f s h = (
  [],
  subst₂ (λ (p : ParserState) (held : List ℕ). Along 0 all_features stream p held []) (sym s) (sym h)
      (answers_go_along.more 0 all_features [] (initial_state 0 all_features) [] [] stream (answers_go_along.begins 0 all_features)),
  refl,
)

module _ (edits : List Edit) (stream bytes : List ℕ) (f g : Feed) (h : HasEdited edits stream f bytes) where
  -- one more part
  pub one_written : (part : Part) → EditedPartComes edits stream h.0 (Ok (Some part)) g
      → HasEdited edits stream g (bytes ++ bytes_as part.fate part.bytes.now)
  one_written part (e, c, is, a) = (
    h.0 ++ e ∷ [],
    a,
    sym (edited_more edits h.0 (e ∷ [])
        ∙ (ap (λ (xs : List ℕ). xs ++ (bytes_as (report_fate edits e.report) e.consumed ++ [])) (sym h.2)
        ∙ (ap (λ (xs : List ℕ). bytes ++ xs) (append-nil (bytes_as (report_fate edits e.report) e.consumed))
        ∙ (ap (λ (xs : List ℕ). bytes ++ bytes_as (report_fate edits e.report) xs) c
        ∙ rw is refl)))),
  )

  -- the end
  pub all_written : EditedPartComes edits stream h.0 (Ok None) g → ReadsEdited edits stream bytes
  all_written (offset, r) = record { events = h.0; offset = offset; reading = r; written = h.2 }

-- ---- what is written so far, and in all

-- the end has no bytes
end_written : (edits : List Edit) (events : List Event) (end : Ending) → edited_bytes edits (events ++ last_event end ∷ [])
    ≡ edited_bytes edits events
end_written edits events end = edited_more edits events (last_event end ∷ []) ∙ append-nil (edited_bytes edits events)

-- what is written so far is no more than what is written in all
pub no_more : (edits : List Edit) (stream bytes all : List ℕ) (f : Feed) → HasEdited edits stream f bytes → ReadsEdited edits stream all
    → length bytes ≤ length all
no_more edits stream bytes all f (events, a, e) r =
    let b : ReadingBegins 0 all_features stream events =
    answers_go_along.first 0 all_features stream f.state f.held events true a stream refl in
    let same : b.events ≡ r.events ++ last_event (ended r.offset) ∷ [] =
    reading_same stream 0 all_features b.events (r.events ++ last_event (ended r.offset) ∷ []) b.reading r.reading in
    let whole : edited_bytes edits events ++ edited_bytes edits b.more ≡ all =
    sym (edited_more edits events b.more)
    ∙ (ap (edited_bytes edits) (sym b.begins ∙ same) ∙ (end_written edits r.events (ended r.offset) ∙ sym r.written)) in
    let n : length bytes ≡ length (edited_bytes edits events) = ap (λ (xs : List ℕ). length xs) e in
    let m : length (edited_bytes edits events ++ edited_bytes edits b.more) ≡ length all = ap (λ (xs : List ℕ). length xs) whole in
    omega (arith, n, m, length-append (edited_bytes edits events) (edited_bytes edits b.more))

-- what is written in all is determined
pub same_written : (edits : List Edit) (stream bytes all : List ℕ) → ReadsEdited edits stream bytes → ReadsEdited edits stream all
    → bytes ≡ all
same_written edits stream bytes all r q =
    let same : r.events ++ last_event (ended r.offset) ∷ [] ≡ q.events ++ last_event (ended q.offset) ∷ [] =
    reading_same stream 0 all_features (r.events ++ last_event (ended r.offset) ∷ []) (q.events ++ last_event (ended q.offset) ∷ [])
    r.reading q.reading in
    r.written ∙ (ap (edited_bytes edits) (push_same r.events q.events (last_event (ended r.offset)) (last_event (ended q.offset)) same).0
    ∙ sym q.written)

-- a stream that ends with a fault isn't read up to its end
pub no_fault : (edits : List Edit) (stream all : List ℕ) (e : Error) → EndsWithFault stream e → ReadsEdited edits stream all → ⊥
no_fault edits stream all e (events, r) q =
    let same : events ++ last_event (fault (fault_at e)) ∷ [] ≡ q.events ++ last_event (ended q.offset) ∷ [] =
    reading_same stream 0 all_features (events ++ last_event (fault (fault_at e)) ∷ []) (q.events ++ last_event (ended q.offset) ∷ [])
    r q.reading in
    let last : last_event (fault (fault_at e)) ≡ last_event (ended q.offset) =
    (push_same events q.events (last_event (fault (fault_at e))) (last_event (ended q.offset)) same).1 in
    let reports : stream_end (fault (fault_at e)) ≡ stream_end (ended q.offset) = ap (λ (x : Event). x.report) last in
    cc
