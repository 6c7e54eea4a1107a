-- How far a caller has come that writes a text of the events it reads, and what each turn does to it.
use Rattle.wasm_streams.proofs.Common.{◌≡◌, ℕ, ◌<◌, List, [], ◌∷◌, ◌++◌, Err, refl, sym, ap, ◌∙◌, arith, append_assoc}
use Rattle.wasm_streams.proofs.Common.{append-nil, Option, Consumes-kept, Consumes-nil, Consumes-trans, Appends, Consumes, all_features}
use Rattle.wasm_streams.proofs.Common.{Ending, last_event, Event, answers_go_along, ReadingBegins, IsCut, PutsBytes, WritesHead}
use Rattle.wasm_streams.proofs.Common.{ListError, Input, FillsAlike, Feed, weight, Reached, Moves, turn_after, Told, Request, Ended}
use Rattle.std.proofs.KnownBytes.{Appends-nil}
use Rattle.std.specs.Io.KnownBytes.{Keeps}
use Rattle.wasm_streams.specs.Lists.{IsListed, Begins, IsHead, Refills, ListsBy, listing_by}
use Rattle.wasm_streams.specs.Progress.{Progress, Wants}
use Rattle.wasm_streams.specs.Turns.{text_after}
use Rattle.wasm_grammar.specs.Reading.{Report, stream_end}
use Rattle.wasm_io.specs.Calls.{Change, from_to}
use Rattle.wasm_io.specs.declared.devices.ListError.TheVariants.{Output, Memory}
use Rattle.wasm_streams.proofs.PassedParts.{head_after, head_of_cut, head_of_puts, puts_more, puts_out}
use Rattle.wasm_streams.proofs.Reached.{AtEnd, IsEnding, IsEvent, all_given, begins_with, next_ends, whole_input}
use Rattle.wasm_streams.specs.declared.turns.Turn.TheVariants as turn
use Rattle.wasm_streams.proofs.Reached as reached

-- ---- any text

pub begun : (text : List Event → List ℕ) → text [] ≡ [] → (source taken : Option (List ℕ)) (f : Feed) → Reached source source f []
    → Progress text (from_to source source) (from_to taken taken) f []
begun text none source taken f r =
    record { events = []; reached = r; puts = record { moved = []; writes = Appends-nil taken; waits = none } }

-- what is done with a request is done where the caller is
abbrev pub progress_of : {text : List Event → List ℕ} {input output : Change} {f : Feed} {page : List ℕ} → Wants text input output f page
    → Progress text input output f page
progress_of w = record { events = w.events; reached = w.asks.reached; puts = w.puts }

module _ (text : List Event → List ℕ) (source rest taken written : Option (List ℕ)) (f : Feed) (page : List ℕ) where
  module _ (p : Progress text (from_to source rest) (from_to taken written) f page) (written' : Option (List ℕ)) where
    -- what was put after the text of these events is that of one more
    module _ (g : Feed) (x : Told) (s : Moves f x g) (piece page' : List ℕ) (w : PutsBytes written written' page piece page')
      where
        pub advanced : turn.Advance ≡ turn_after x
            → ((e : Event) → IsEvent x e → text (p.events ++ e ∷ []) ≡ text p.events ++ piece)
            → Progress text (from_to source rest) (from_to taken written') g page' × (weight g < weight f)
        advanced t more =
            let (e, is, after, less) = reached.next_event source rest f p.events p.reached g x s t in
            let puts = puts_more taken written written' [] (text p.events) page piece page' p.puts w in
            (record { events = p.events ++ e ∷ []; reached = after; puts = rw (more e is) puts }, less)

  -- nothing is put for a request
  pub wanted : Progress text (from_to source rest) (from_to taken written) f page → (g : Feed) (hint : ℕ) → Moves f (Request hint) g
      → Wants text (from_to source rest) (from_to taken written) g page
  wanted p g hint s =
      let (asked, is, asks, same) = reached.next_asks source rest f p.events p.reached g (Request hint) s refl in
      record { events = p.events; asks = asks; puts = p.puts }

module _ {text : List Event → List ℕ} {source rest taken written : Option (List ℕ)} {f : Feed} {page : List ℕ} where
  -- all that waited is written
  pub to_be_written : {written' : Option (List ℕ)} → Wants text (from_to source rest) (from_to taken written) f page
      → Appends written written' page → Wants text (from_to source rest) (from_to taken written') f []
  to_be_written {written'} w a =
      record { events = w.events; asks = w.asks; puts = puts_out taken written written' [] (text w.events) page w.puts a }

  -- it was read on
  pub filled : {rest' : Option (List ℕ)} {g : Feed} → Wants text (from_to source rest) (from_to taken written) f page
      → FillsAlike rest rest' f g → Progress text (from_to source rest') (from_to taken written) g page × (weight g < weight f)
  filled {rest'} {g} w fills =
      let (after, less) = reached.reads_on source rest f w.events w.asks rest' g fills in
      (record { events = w.events; reached = after; puts = w.puts }, less)

-- ---- listings: each event by the text of what it reports

module _ (text_of : Report → List ℕ) where
  listing-append : (es fs : List Event) → listing_by text_of (es ++ fs) ≡ listing_by text_of es ++ listing_by text_of fs
  listing-append [] fs = refl
  listing-append (x ∷ es) fs = search (append_assoc, listing-append es fs)

  pub one_more : (es : List Event) (e : Event) → listing_by text_of (es ++ e ∷ []) ≡ listing_by text_of es ++ text_of e.report
  one_more es e = listing-append es (e ∷ []) ∙ ap (λ (l : List ℕ). listing_by text_of es ++ l) (append-nil (text_of e.report))

  pub text_of_event : (x : Told) (es : List Event) (e : Event) → IsEvent x e
      → listing_by text_of (es ++ e ∷ []) ≡ listing_by text_of es ++ text_after text_of x
  text_of_event x es e is = grind (arith, one_more)

  text_of_ending : (x : Told) (end : Ending) → IsEnding x end → text_after text_of x ≡ text_of (stream_end end)
  text_of_ending x end is = grind arith

  -- a prefix of the listing, of a stream whose reading begins with these events
  begins_listing : (stream : List ℕ) (events : List Event) (lines more : List ℕ) → ReadingBegins 0 all_features stream events
      → listing_by text_of events ≡ lines ++ more → Begins text_of stream lines
  begins_listing stream events lines more r e = record {
    events = r.events;
    reading = r.reading;
    more = more ++ listing_by text_of r.more;
    parts = grind (arith, listing-append, append_assoc);
  }

  module _ (source rest taken written : Option (List ℕ)) (f : Feed) (page : List ℕ)
      (p : Progress (listing_by text_of) (from_to source rest) (from_to taken written) f page) where
    -- a prefix of the lines is written, and more was read
    head : (rest' written' : Option (List ℕ)) (more : List ℕ) → Consumes rest rest' more
        → WritesHead taken written' (listing_by text_of p.events) → IsHead text_of (from_to source rest') (from_to taken written')
    head rest' written' more gave w = record {
      given = p.reached.given ++ more;
      shown = w.moved;
      gave = Consumes-trans source rest rest' p.reached.given more p.reached.gave gave;
      listed = w.wrote;
      begins = λ l. begins_listing (p.reached.given ++ more) p.events w.moved w.unwritten
          (begins_with source rest f p.events p.reached more)
          w.parts;
    }

    pub cut : (written' : Option (List ℕ)) (e : ListError) → IsCut written written' page e
        → ListsBy text_of (from_to source rest) (from_to taken written') (Err e)
    cut written' e w =
        let some = head rest written' [] (Consumes-nil rest)
        (head_after taken written written' [] (listing_by text_of p.events) page p.puts (head_of_cut written written' page e w)) in
        grind arith

    -- out of memory for what arrived
    pub no_memory : (rest' : Option (List ℕ)) (piece : List ℕ) → Consumes rest rest' piece
        → ListsBy text_of (from_to source rest') (from_to taken written) (Err Memory)
    no_memory rest' piece c = head rest' written piece c (head_of_puts taken written [] (listing_by text_of p.events) page p.puts)

    -- ---- the end

    module _ (how : Ended) (end : Ending) (a : AtEnd p.reached.given p.events f.eof how end) (line : List ℕ)
        (same : line ≡ text_of (stream_end end)) (written' : Option (List ℕ)) (page' : List ℕ)
        (w : PutsBytes written written' page line page') where
      abbrev all : List Event
      all = p.events ++ last_event end ∷ []

      puts : PutsBytes taken written' [] (listing_by text_of all) page'
      puts = rw (one_more p.events (last_event end), sym same)
          (puts_more taken written written' [] (listing_by text_of p.events) page line page' p.puts w)

      -- all is written, and the run ends
      pub listed_to_end : (written'' : Option (List ℕ)) → Appends written' written'' page'
          → IsListed text_of (from_to source rest) (from_to taken written'') how
      listed_to_end written'' v = record {
        given = p.reached.given;
        first = p.events;
        end = end;
        gave = p.reached.gave;
        listed = let o = puts_out taken written' written'' [] (listing_by text_of all) page' puts v in
            rw (sym (o.waits ∙ append-nil o.moved)) at o.writes;
        ends = a.ends;
        within = λ l. whole_input source rest f p.events p.reached all (a.within l);
        past_the_top = λ h. record { begins = reached.begins source rest f p.events p.reached; is_fault = a.past_the_top h };
      }

      -- the last lines were cut
      pub cut_at_end : (written'' : Option (List ℕ)) (e : ListError) → IsCut written' written'' page' e
          → ListsBy text_of (from_to source rest) (from_to taken written'') (Err e)
      cut_at_end written'' e v =
          let h = head_after taken written' written'' [] (listing_by text_of all) page' puts (head_of_cut written' written'' page' e v) in
          let some : IsHead text_of (from_to source rest) (from_to taken written'') = record {
            given = p.reached.given;
            shown = h.moved;
            gave = p.reached.gave;
            listed = h.wrote;
            begins = λ l. begins_listing p.reached.given all h.moved h.unwritten (record {
              events = all;
              more = [];
              reading = a.within l p.reached.given (all_given f.eof p.reached.given);
              begins = sym (append-nil all);
            }) h.parts;
          } in
          grind arith

    -- ---- the turns

    module _ (g : Feed) (x : Told) (s : Moves f x g) (written' : Option (List ℕ)) (page' : List ℕ)
        (w : PutsBytes written written' page (text_after text_of x) page') where
      pub line_advanced : turn.Advance ≡ turn_after x
          → Progress (listing_by text_of) (from_to source rest) (from_to taken written') g page' × (weight g < weight f)
      line_advanced t = advanced (listing_by text_of) source rest taken written f page p written' g x s (text_after text_of x) page' w t
          (λ e is. text_of_event x p.events e is)

      module _ (how : Ended) (t : turn.End how ≡ turn_after x) where
        pub listed_all : (written'' : Option (List ℕ)) → Appends written' written'' page'
            → IsListed text_of (from_to source rest) (from_to taken written'') how
        listed_all written'' v =
            let (end, a, is) = next_ends source rest f p.events p.reached g x s how t in
            listed_to_end how end a (text_after text_of x) (text_of_ending x end is) written' page' w written'' v

        pub end_cut : (written'' : Option (List ℕ)) (e : ListError) → IsCut written' written'' page' e
            → ListsBy text_of (from_to source rest) (from_to taken written'') (Err e)
        end_cut written'' e v =
            let (end, a, is) = next_ends source rest f p.events p.reached g x s how t in
            cut_at_end how end a (text_after text_of x) (text_of_ending x end is) written' page' w written'' e v

  -- ---- a read

  module _ (source rest taken written : Option (List ℕ)) (f : Feed)
      (w : Wants (listing_by text_of) (from_to source rest) (from_to taken written) f []) (rest' : Option (List ℕ)) where
    all_written : Appends taken written (listing_by text_of w.events)
    all_written = rw (sym (w.puts.waits ∙ append-nil w.puts.moved)) at w.puts.writes

    -- the source failed: the lines of all events but the last are written
    input_fails : Keeps rest rest' → ListsBy text_of (from_to source rest') (from_to taken written) (Err Input)
    input_fails k =
        let (end, reading) = answers_go_along.cut_short 0 all_features w.asks.reached.given f.state f.held w.events f.eof w.asks.hint
        w.asks.reached.is_along w.asks.undecided in
        record {
          given = w.asks.reached.given;
          events = w.events;
          last = last_event end;
          gave = Consumes-kept source rest rest' w.asks.reached.given w.asks.reached.gave k;
          listed = all_written;
          reading = reading;
        }

    -- a read that was given up
    pub not_filled : (g : Feed) (e : ListError) → Refills rest rest' f g (Err e)
        → ListsBy text_of (from_to source rest') (from_to taken written) (Err e)
    not_filled g Input k = input_fails k
    not_filled g Memory k = no_memory source rest taken written f [] (progress_of w) rest' k.0 k.1
    not_filled g Output k = absurd k
