-- How far a stream is edited while it is read, and what each turn does to it.
use Rattle.wasm_edits.proofs.Common.{◌≡◌, ℕ, inl, inr, Bool, true, false, List, [], ◌∷◌, ◌++◌, length, Some, refl, sym, subst, arith}
use Rattle.wasm_edits.proofs.Common.{append-nil, append_assoc, ◌≤◌, ◌<◌, drop, ap, ◌∙◌, Option, None, Result, Ok, Err, Consumes-trans}
use Rattle.wasm_edits.proofs.Common.{Consumes-nil}
use Rattle.wasm_edits.proofs.Common.{Appends, fault_at, all_features, Error, fault, Ending, consumed_by, Event, last_event, Reading}
use Rattle.wasm_edits.proofs.Common.{answers_go_along, from_to, IsCut, PutsBytes, ListError, StopsHere, AtEnd, All}
use Rattle.wasm_edits.proofs.Common.{arrived, cut_within, is_short, past, puts_more, seen, lending, head_stays, Feed, pushed, SkipsHere}
use Rattle.wasm_edits.proofs.Common.{held_by, Progress, Wants, weight, Moves, Cursor, Passing, Fault}
use Rattle.std.specs.Io.KnownBytes.{Consumes}
use Rattle.std.specs.Prelude.{IfErr, IfOk}
use Rattle.wasm_edits.specs.EditStream.{EditsHead, IsPartial, IsStreamed, PassesHere, ReadsOrPasses, piece_after}
use Rattle.wasm_edits.specs.Edits.{CanBeMade, bytes_as, edited_bytes, head_fate, is_itself, report_fate, stays_in}
use Rattle.wasm_edits.specs.declared.edits.Edit.{Edit}
use Rattle.wasm_edits.specs.declared.edits.Fate.{Fate}
use Rattle.wasm_edits.specs.declared.edits.Fate.TheVariants.{Stays, Goes, Becomes}
use Rattle.wasm_edits.specs.declared.streaming.Passed.TheVariants.{Cut, Part}
use Rattle.wasm_streams.specs.Beside.{unseen}
use Rattle.wasm_streams.specs.Passing.{EndsAtError, PartEnds, if_stays}
use Rattle.wasm_streams.specs.Progress.{Reached}
use Rattle.wasm_streams.specs.Turns.{turn_after}
use Rattle.wasm_streams.specs.Step.{Told}
use Rattle.wasm_streams.specs.declared.turns.Ended.{Ended}
use Rattle.wasm_streams.specs.declared.turns.Ended.TheVariants.{End}
use Rattle.wasm_streams.specs.declared.turns.Turn.{Turn}
use Rattle.wasm_grammar.specs.Reading.{Report}
use Rattle.wasm_frames.specs.SkipNext.{Head, Skip, skip_in}
use Rattle.wasm_io.specs.Page.{WritesHead, WritesOut}
use Rattle.wasm_io.specs.declared.devices.ListError.TheVariants.{Input, Memory, Output}
use Rattle.wasm_edits.proofs.EditLaws.{edited_more, edits_so}
use Rattle.wasm_streams.proofs.ForCallers.{IsEvent, all_given, begins, begins_with, consumed, whole_input, head_after, head_before}
use Rattle.wasm_streams.proofs.ForCallers.{head_of_cut, head_of_puts, head_past, puts_out, same_held}
use Rattle.wasm_streams.specs.declared.turns.Turn.TheVariants as turn
use Rattle.wasm_streams.proofs.ForCallers as progress

-- ---- the bytes of one event more

edited_by : (edits : List Edit) (es : List Event) (e : Event) (fate : Fate) (bytes : List ℕ) → report_fate edits e.report ≡ fate
    → e.consumed ≡ bytes → edited_bytes edits (es ++ e ∷ []) ≡ edited_bytes edits es ++ bytes_as fate bytes
edited_by edits es e fate bytes s is = grind (arith, edited_more, append-nil)

edited_event : (edits : List Edit) (x : Told) (es : List Event) (e : Event) → IsEvent x e
    → edited_bytes edits (es ++ e ∷ []) ≡ edited_bytes edits es ++ piece_after edits x
edited_event edits x es e is = grind (arith, edited_by)

-- only an event has bytes
nothing_after : (edits : List Edit) (x : Told) (t : Turn) → t ≡ turn_after x → (t ≡ turn.Advance → ⊥)
    → piece_after edits x ≡ []
nothing_after edits x t is other = grind arith

-- what becomes of a part with these first fields becomes of its event
same_fate : (edits : List Edit) (report : Report) (s : Skip) → skip_in report ≡ Some s → report_fate edits report ≡ head_fate edits s.head
same_fate edits report s e = grind arith

-- its own bytes are forwarded if it stays
pub head_itself : (edits : List Edit) (head : Head) → head_stays (stays_in edits) head ≡ is_itself (head_fate edits head)
head_itself edits head = grind arith

-- what is written of a part: its own bytes, if they are forwarded, and then what replaces it
in_turn : (fate : Fate) (stays : Bool) (bytes : List ℕ) → stays ≡ is_itself fate → if_stays stays bytes ++ bytes_as fate []
    ≡ bytes_as fate bytes
in_turn Stays stays bytes is = rw is (append-nil bytes)
in_turn Goes stays bytes is = rw is refl
in_turn (Becomes section) stays bytes is = rw is refl

-- ---- where it ends

module _ (edits : List Edit) (source rest : Option (List ℕ)) (f : Feed) (events : List Event) (r : Reached source rest f events)
    (taken written : Option (List ℕ)) (partial unread : List ℕ) where
  -- the call was given up, after more bytes were read
  pub gave_up : (rest' : Option (List ℕ)) (more : List ℕ) → Consumes rest rest' more → f.held ++ more ≡ partial ++ unread
      → IsPartial edits (r.given ++ more) events partial → WritesHead taken written (edited_bytes edits events ++ partial)
      → EditsHead edits (from_to source rest') (from_to taken written)
  gave_up rest' more gave same stays w = record {
    given = r.given ++ more;
    first = events;
    partial = partial;
    unread = unread;
    gave = Consumes-trans source rest rest' r.given more r.gave gave;
    begins = begins_with source rest f events r more;
    parts = ap (λ (l : List ℕ). l ++ more) (consumed source rest f events r)
        ∙ (append_assoc (consumed_by events) f.held more ∙ ap (λ (l : List ℕ). consumed_by events ++ l) same);
    stays = stays;
    wrote = w;
  }

  -- the stream ends, perhaps within a part
  streamed_so : All CanBeMade edits → (how : Ended) (end : Ending) → AtEnd r.given events f.eof how end → f.held ≡ partial ++ unread
      → IsPartial edits r.given events partial
      → (how ≡ End → partial ≡ []) → Appends taken written (edited_bytes edits events ++ partial)
      → IsStreamed edits (from_to source rest) (from_to taken written) how
  streamed_so fits how end a same stays none wrote = record {
    given = r.given;
    first = events;
    end = end;
    partial = partial;
    unread = unread;
    gave = r.gave;
    parts = consumed source rest f events r ∙ ap (λ (l : List ℕ). consumed_by events ++ l) same;
    stays = stays;
    wrote = wrote;
    ends = a.ends;
    within = λ l. whole_input source rest f events r (events ++ last_event end ∷ []) (a.within l);
    past_the_top = λ h. record { begins = begins source rest f events r; is_fault = a.past_the_top h };
    is_edited = λ z stream.
        let (offset, e, l) = a.whole z in
        edits_so edits r.given (edited_bytes edits events ++ partial) fits stream (record {
          events = events;
          offset = offset;
          reading = subst (λ (y : Ending). Reading r.given 0 all_features (events ++ last_event y ∷ [])) e
              (a.within l r.given (all_given f.eof r.given));
          written = rw (none z) (append-nil (edited_bytes edits events));
        });
  }

-- ---- the turns

module _ (edits : List Edit) (source rest taken written : Option (List ℕ)) (f : Feed) (page : List ℕ)
    (p : Progress (edited_bytes edits) (from_to source rest) (from_to taken written) f page) where
  -- nothing more was written
  pub gave_up_at_once : (rest' : Option (List ℕ)) (more : List ℕ) → Consumes rest rest' more
      → EditsHead edits (from_to source rest') (from_to taken written)
  gave_up_at_once rest' more gave = gave_up edits source rest f p.events p.reached taken written [] (f.held ++ more) rest' more gave refl
      (inl refl) (rw (append-nil (edited_bytes edits p.events)) (head_of_puts taken written [] (edited_bytes edits p.events) page p.puts))

  module _ (g : Feed) (x : Told) (s : Moves f x g) where
    -- the bytes of a step could not be put, or were put and could not be written
    wrote_up_to : (written' : Option (List ℕ)) → WritesHead written written' (page ++ piece_after edits x) → (t : Turn) → t ≡ turn_after x
        → EditsHead edits (from_to source rest) (from_to taken written')
    wrote_up_to written' w turn.Advance t =
        let (e, is, after, less) = progress.next_event source rest f p.events p.reached g x s t in
        gave_up edits source rest g (p.events ++ e ∷ []) after taken written' [] g.held rest [] (Consumes-nil rest) (append-nil g.held)
        (inl refl) (rw (append-nil (edited_bytes edits (p.events ++ e ∷ [])), edited_event edits x p.events e is)
        (head_past taken written written' [] (edited_bytes edits p.events) page (piece_after edits x) p.puts w))
    wrote_up_to written' w t is =
        gave_up edits source rest f p.events p.reached taken written' [] f.held rest [] (Consumes-nil rest) (append-nil f.held) (inl refl)
        (rw (nothing_after edits x t is (λ z. cc)) at (head_past taken written written' [] (edited_bytes edits p.events) page
        (piece_after edits x) p.puts w))

    pub cut : (written' : Option (List ℕ)) (e : ListError) → IsCut written written' (page ++ piece_after edits x) e
        → EditsHead edits (from_to source rest) (from_to taken written')
    cut written' e w = wrote_up_to written' (head_of_cut written written' (page ++ piece_after edits x) e w) (turn_after x) refl

    module _ (written' : Option (List ℕ)) (page' : List ℕ) (w : PutsBytes written written' page (piece_after edits x) page') where
      pub cut_page : (written'' : Option (List ℕ)) (e : ListError) → IsCut written' written'' page' e
          → EditsHead edits (from_to source rest) (from_to taken written'')
      cut_page written'' e v = wrote_up_to written''
          (head_after written written' written'' page (piece_after edits x) page' w (head_of_cut written' written'' page' e v))
          (turn_after x) refl

      pub advanced : turn.Advance ≡ turn_after x
          → Progress (edited_bytes edits) (from_to source rest) (from_to taken written') g page' × (weight g < weight f)
      advanced t = progress.advanced (edited_bytes edits) source rest taken written f page p written' g x s (piece_after edits x) page' w t
          (λ e is. edited_event edits x p.events e is)

      -- all is written, and the run ends
      pub streamed : All CanBeMade edits → (how : Ended) → turn.End how ≡ turn_after x → (written'' : Option (List ℕ))
          → Appends written' written'' page'
          → IsStreamed edits (from_to source rest) (from_to taken written'') how
      streamed fits how t written'' v =
          let (end, a, is) = progress.next_ends source rest f p.events p.reached g x s how t in
          let o = puts_out taken written' written'' [] (edited_bytes edits p.events ++ piece_after edits x) page'
          (puts_more taken written written' [] (edited_bytes edits p.events) page (piece_after edits x) page' p.puts w) v in
          let none = nothing_after edits x (turn.End how) t (λ z. cc) in
          streamed_so edits source rest f p.events p.reached taken written'' [] f.held fits how end a refl (inl refl) (λ _. refl)
          (rw none at (rw (sym (o.waits ∙ append-nil o.moved)) at o.writes))

-- ---- a part that is skipped

-- its bytes that do not stay
abbrev pub dropped : Bool → List ℕ → List ℕ
dropped true xs = []
dropped false xs = xs

both_parts : (b : Bool) (xs : List ℕ) → if_stays b xs ++ dropped b xs ≡ xs
both_parts b xs = grind (arith, append-nil)

module _ (edits : List Edit) (source rest taken written : Option (List ℕ)) (c : Cursor) (stored chunk page : List ℕ)
    (w : Wants (edited_bytes edits) (from_to source rest) (from_to taken written) (lending stored chunk c) page)
    (rest' : Option (List ℕ)) where
  module _ (passing : Passing) (skipped : Cursor) (skips : SkipsHere (head_stays (stays_in edits)) c (seen stored chunk) passing skipped)
      (fetched : List ℕ) (gave : Consumes rest rest' fetched) (part left : List ℕ)
      (parts : held_by skipped stored chunk ++ fetched ≡ part ++ left) (few : length part ≤ passing.size) where
    held_parts : held_by c stored chunk ++ fetched ≡ if_stays passing.stays part ++ (dropped passing.stays part ++ left)
    held_parts =
        let same = same_held (head_stays (stays_in edits)) source rest w.events c stored chunk w.asks passing skipped skips fetched in
        ap (λ (l : List ℕ). l ++ fetched) (sym same) ∙ (parts ∙ (ap (λ (l : List ℕ). l ++ left) (sym (both_parts passing.stays part))
        ∙ append_assoc (if_stays passing.stays part) (dropped passing.stays part) left))

    -- what is forwarded of it is of a part that stays
    partial_stays : (b : Bool) → passing.stays ≡ b → IsPartial edits (w.asks.reached.given ++ fetched) w.events (if_stays b part)
    partial_stays false is = inl refl
    partial_stays true is = inr (record {
      state = c.parser;
      held = held_by c stored chunk ++ fetched;
      seen = drop c.mark (seen stored chunk);
      later = unseen stored chunk ++ fetched;
      along = answers_go_along.more 0 all_features w.asks.reached.given c.parser (held_by c stored chunk) w.events fetched
          w.asks.reached.is_along;
      parts = append_assoc (drop c.mark (seen stored chunk)) (unseen stored chunk) fetched;
      skip = skips.skip;
      next = skipped.parser;
      skips = skips.skips;
      stays = sym skips.stays ∙ is;
      within = let z = skips.size in omega (arith, z, few);
    })

    -- a prefix of what waited and of it is written
    pub gave_up_within : (written' : Option (List ℕ)) → WritesHead written written' (page ++ if_stays passing.stays part)
        → EditsHead edits (from_to source rest') (from_to taken written')
    gave_up_within written' h = gave_up edits source rest (lending stored chunk c) w.events w.asks.reached taken written'
        (if_stays passing.stays part) (dropped passing.stays part ++ left) rest' fetched gave held_parts (partial_stays passing.stays refl)
        (head_past taken written written' [] (edited_bytes edits w.events) page (if_stays passing.stays part) w.puts h)

  -- More was read, or a part was passed. What replaces the part has not been written.
  record IsPast (written' : Option (List ℕ)) (fate : Fate) (new : Feed) (page' : List ℕ) : Type 0 where
    events : List Event
    reached : Reached source rest' new events
    text : List ℕ
    puts : PutsBytes taken written' [] text page'
    whole : edited_bytes edits events ≡ text ++ bytes_as fate []
    less : weight new < weight (lending stored chunk c)

  module _ (written' : Option (List ℕ)) (how_cut : Option Error) (fate : Fate) (new : Feed) (page' : List ℕ)
      (x : PassesHere edits rest rest' written written' c stored chunk page how_cut fate new page') where
    over : length x.passes.part ≡ x.part.passing.size → IsPast written' fate new page'
    over n =
        let here = x.skips.here in
        let (e, says, is, after, less) = past (head_stays (stays_in edits)) source rest w.events c stored chunk w.asks x.part.passing
        x.skipped here x.passes.fetched x.passes.part x.left x.passes.parts n rest' x.passes.gave new x.state x.held x.eof in
        let becomes : report_fate edits e.report ≡ fate = same_fate edits e.report here.skip says ∙ (sym x.skips.fate ∙ sym x.so) in
        let stays : x.part.passing.stays ≡ is_itself fate = here.stays
        ∙ (head_itself edits here.skip.head ∙ ap is_itself (sym x.skips.fate ∙ sym x.so)) in
        record {
          events = w.events ++ e ∷ [];
          reached = after;
          text = edited_bytes edits w.events ++ if_stays x.part.passing.stays x.passes.part;
          puts = puts_more taken written written' [] (edited_bytes edits w.events) page (if_stays x.part.passing.stays x.passes.part) page'
              w.puts x.passes.puts;
          whole = edited_by edits w.events e fate x.passes.part becomes is
              ∙ (ap (λ (l : List ℕ). edited_bytes edits w.events ++ l) (sym (in_turn fate x.part.passing.stays x.passes.part stays))
              ∙ sym (append_assoc (edited_bytes edits w.events) (if_stays x.part.passing.stays x.passes.part) (bytes_as fate [])));
          less = less;
        }

    few : (ends : Option Error) → PartEnds x.part.passing (length x.passes.part) ends rest' x.left
        → length x.passes.part ≤ x.part.passing.size
    few None n = omega (arith, n)
    few (Some e) n = omega (arith, n.0)

    -- the stream ends within the part
    cut_off : All CanBeMade edits → (e : Error) → PartEnds x.part.passing (length x.passes.part) (Some e) rest' x.left
        → (written'' : Option (List ℕ)) → Appends written' written'' page'
        → IsStreamed edits (from_to source rest') (from_to taken written'') (Fault e)
    cut_off fits e (less, end, none, at) written'' v =
        let passing = x.part.passing in
        let here = x.skips.here in
        let short = is_short (head_stays (stays_in edits)) source rest w.events c stored chunk w.asks passing x.skipped here
        x.passes.fetched x.passes.part x.left x.passes.parts less none in
        let o = puts_out taken written' written'' [] (edited_bytes edits w.events ++ if_stays passing.stays x.passes.part) page'
        (puts_more taken written written' [] (edited_bytes edits w.events) page (if_stays passing.stays x.passes.part) page' w.puts
        x.passes.puts) v in
        streamed_so edits source rest' (record (pushed (lending stored chunk c) x.passes.fetched) { eof = true }) w.events
        (arrived source rest (lending stored chunk c) w.events w.asks rest' x.passes.fetched true x.passes.gave (λ _. end)) taken written''
        (if_stays passing.stays x.passes.part) (dropped passing.stays x.passes.part ++ x.left) fits (Fault e) (fault (fault_at e))
        (cut_within (head_stays (stays_in edits)) source rest w.events c stored chunk w.asks passing x.skipped here x.passes.fetched short e
        at)
        (held_parts passing x.skipped here x.passes.fetched x.passes.gave x.passes.part x.left x.passes.parts (omega (arith, less)))
        (partial_stays passing x.skipped here x.passes.fetched x.passes.gave x.passes.part x.left x.passes.parts (omega (arith, less))
        passing.stays refl) (λ z. cc) (rw (sym (o.waits ∙ append-nil o.moved)) at o.writes)

    -- the page could not be written after that
    page_cut : (written'' : Option (List ℕ)) (e : ListError) → IsCut written' written'' page' e
        → EditsHead edits (from_to source rest') (from_to taken written'')
    page_cut written'' e v = gave_up_within x.part.passing x.skipped x.skips.here x.passes.fetched x.passes.gave x.passes.part x.left
        x.passes.parts (few how_cut x.passes.ends) written'' (head_after written written' written'' page
        (if_stays x.part.passing.stays x.passes.part) page' x.passes.puts (head_of_cut written' written'' page' e v))

  -- ---- what was done with a request

  module _ (written' : Option (List ℕ)) (new : Feed) (page' : List ℕ) where
    is_past : (fate : Fate) → ReadsOrPasses edits rest rest' written written' c stored chunk page (Part fate) new page'
        → IsPast written' fate new page'
    is_past fate (inl ((fills, same, waits), skips, is)) =
        let (p, less) = progress.filled w fills in
        record {
          events = p.events;
          reached = p.reached;
          text = edited_bytes edits p.events;
          puts = rw (same, waits) p.puts;
          whole = rw is (sym (append-nil (edited_bytes edits p.events)));
          less = less;
        }
    is_past fate (inr x) = over written' None fate new page' x x.passes.ends

    module _ (fate : Fate) (s : ReadsOrPasses edits rest rest' written written' c stored chunk page (Part fate) new page')
        (written'' : Option (List ℕ)) where
      -- and what replaces a part was put
      pub went_past : (page'' : List ℕ) → PutsBytes written' written'' page' (bytes_as fate []) page''
          → Progress (edited_bytes edits) (from_to source rest') (from_to taken written'') new page''
          × (weight new < weight (lending stored chunk c))
      went_past page'' q =
          let p = is_past fate s in (
            record {
              events = p.events;
              reached = p.reached;
              puts = rw p.whole (puts_more taken written' written'' [] p.text page' (bytes_as fate []) page'' p.puts q);
            },
            p.less,
          )

      -- or it could not be put
      pub put_not : (e : ListError) → IsCut written' written'' (page' ++ bytes_as fate []) e
          → EditsHead edits (from_to source rest') (from_to taken written'')
      put_not e v =
          let p = is_past fate s in
          gave_up edits source rest' new p.events p.reached taken written'' [] new.held rest' [] (Consumes-nil rest') (append-nil new.held)
          (inl refl) (rw (append-nil (edited_bytes edits p.events), p.whole)
          (head_past taken written' written'' [] p.text page' (bytes_as fate []) p.puts
          (head_of_cut written' written'' (page' ++ bytes_as fate []) e v)))

    module _ (e : Error) (s : ReadsOrPasses edits rest rest' written written' c stored chunk page (Cut e) new page')
        (written'' : Option (List ℕ)) where
      -- a part was cut off
      pub was_cut : All CanBeMade edits → Appends written' written'' page'
          → IsStreamed edits (from_to source rest') (from_to taken written'') (Fault e)
      was_cut fits v = cut_off written' (Some e) s.0 new page' s.1 fits e s.1.passes.ends written'' v

      -- the page could not be written after that
      pub cut_after : (why : ListError) → IsCut written' written'' page' why
          → EditsHead edits (from_to source rest') (from_to taken written'')
      cut_after why v = page_cut written' (Some e) s.0 new page' s.1 written'' why v

  few_before : (written' : Option (List ℕ)) (stays : Bool) (missing : ℕ) (passed left new : List ℕ) (e : ListError)
      → EndsAtError written written' stays missing page passed left new e → length passed ≤ missing
  few_before written' stays missing passed left new e w = grind arith

  -- a request could not be met
  pub stopped_here : (written' : Option (List ℕ)) (e : ListError) → StopsHere edits rest rest' written written' c stored chunk page e
      → EditsHead edits (from_to source rest') (from_to taken written')
  stopped_here written' e (inl ((given, gave, same), skips)) = rw same (gave_up_at_once edits source rest taken written
      (lending stored chunk c) page (progress.progress_of w) rest' given gave)
  stopped_here written' e (inr x) = gave_up_within x.part.passing x.skipped x.skips.here x.up.given x.up.gave x.up.passed x.left x.up.parts
      (few_before written' x.part.passing.stays x.part.passing.size x.up.passed x.left x.page e x.up.ends) written'
      (head_before written written' x.part.passing.stays x.part.passing.size page x.up.passed x.left x.page e x.up.ends)

-- ---- the sections that are appended

pub no_length : (edits : List Edit) → length edits < 1 → edits ≡ []
no_length [] l = refl
no_length (x ∷ edits) l = absurd (omega (arith, l))

longer : (taken written : Option (List ℕ)) (bytes rest all : List ℕ) → bytes ++ rest ≡ all → WritesHead taken written bytes
    → WritesHead taken written all
longer taken written bytes rest all e h = record {
  moved = h.moved;
  unwritten = h.unwritten ++ rest;
  parts = sym e ∙ (ap (λ (l : List ℕ). l ++ rest) h.parts ∙ append_assoc h.moved h.unwritten rest);
  wrote = h.wrote;
}

module _ (taken mid written : Option (List ℕ)) (front page all : List ℕ) (p : PutsBytes taken mid [] front page) where
  -- one could not be put
  pub new_cut : (more rest : List ℕ) → front ++ (more ++ rest) ≡ all → (e : ListError) → IsCut mid written (page ++ more) e
      → IsCut taken written all e
  new_cut more rest whole Output w = longer taken written (front ++ more) rest all (append_assoc front more rest ∙ whole)
      (head_past taken mid written [] front page more p w)
  new_cut more rest whole Memory w = longer taken written (front ++ more) rest all (append_assoc front more rest ∙ whole)
      (head_past taken mid written [] front page more p w)
  new_cut more rest whole Input w = absurd w

  -- all are written, or a prefix
  pub new_out : (new : List ℕ) (result : Result (Unit {0}) ListError) → front ≡ all → WritesOut mid written page new result
      → IfOk result (λ done. Appends taken written all) × IfErr result (λ e. IsCut taken written all e)
  new_out new (Ok done) whole w =
      let o = puts_out taken mid written [] front page p w.0 in
      (rw (sym (o.waits ∙ append-nil o.moved), whole) at o.writes, tt)
  new_out new (Err Output) whole w = (tt, rw whole at (head_after taken mid written [] front page p w))
  new_out new (Err Input) whole w = absurd w
  new_out new (Err Memory) whole w = absurd w
