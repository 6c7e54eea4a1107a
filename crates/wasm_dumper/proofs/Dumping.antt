-- How far a dump has come. Its outline is what a listing by the lines that are shown would have written.
use Rattle.wasm_dumper.proofs.Common.{◌≡◌, ℕ, ◌<◌, Bool, true, false, List, [], ◌∷◌, ◌++◌, Some, None, Result, Ok, Err, refl, sym, ap}
use Rattle.wasm_dumper.proofs.Common.{subst, subst₂, ◌∙◌, append-nil, arith, length, Option, append_assoc, length-append}
use Rattle.wasm_dumper.proofs.Common.{Consumes-trans, if◌then◌else◌, Feed, weight, Moves, turn_after}
use Rattle.wasm_dumper.proofs.Common.{Told, Request, Stop, Fault, End, Ending, Report, Event, last_event}
use Rattle.wasm_dumper.proofs.Common.{input_failed, ListError, Input, Base, Number, Writing, IsWritten, Adds, IsOut, Origin, chosen_line}
use Rattle.wasm_dumper.proofs.Common.{is_chosen, after, after_all, no_counts, DumpsInto, ShowsAnswer, bytes_of_events, origin, shown_bytes}
use Rattle.wasm_dumper.proofs.Common.{AreOf, AreOfEvents, Counts, Only}
use Rattle.std.proofs.KnownBytes.{Appends-nil, Consumes-nil, Consumes-kept}
use Rattle.std.proofs.lemmas.Grind.{flat_map-append}
use Rattle.std.specs.Io.KnownBytes.{Appends, Consumes}
use Rattle.std.specs.Prelude.{flat_map}
use Rattle.wasm_base.specs.Features.{all_features}
use Rattle.wasm_dumper.specs.Dump.{AreOfSource, bytes_of_answer, bytes_of_event, is_whole, WritesWhole, WritesSome, AreOfAnswer}
use Rattle.wasm_dumper.specs.Dump.{after_answer, DumpsFrom, DumpsByTree, Writes, stopped_by}
use Rattle.wasm_streams.specs.Beside.{FillsAlike}
use Rattle.wasm_streams.specs.Feed.{new_feed}
use Rattle.wasm_streams.specs.Lists.{IsHead, ListsBy, Refills, listing_by}
use Rattle.wasm_streams.specs.Progress.{Asks, Reached, Progress}
use Rattle.wasm_streams.specs.Step.{answer_of, is_request, shown}
use Rattle.wasm_streams.specs.Turns.{text_after}
use Rattle.wasm_streams.specs.Step as tells
use Rattle.wasm_streams.specs.declared.turns.Ended.{Ended}
use Rattle.wasm_streams.specs.declared.turns.Turn.{Turn}
use Rattle.wasm_grammar.specs.EventRanges.{consumed_by}
use Rattle.wasm_grammar.specs.Reading.{Reading}
use Rattle.wasm_io.specs.Calls.{Change, Device, bytes_of, from_to, output_failed}
use Rattle.wasm_io.specs.Page.{WritesHead, PutsBytes}
use Rattle.wasm_io.specs.declared.devices.ListError.TheVariants.{Output, Memory}
use Rattle.wasm_output.specs.Json.{IsAt}
use Rattle.wasm_output.specs.Tree.{IsOutlined, Part, begun, begun_numbers, IsGoingIn, IsCutShort, IsShaped, are_lines}
use Rattle.wasm_output.specs.declared.objects.Spot.{Spot}
use Rattle.wasm_output.specs.declared.tree.Style.{Style}
use Rattle.wasm_output.specs.declared.tree.Style.TheVariants.{Lines, Objects}
use Rattle.wasm_dumper.specs.Dumping.{Dumping, HasWritten, IsFresh, WrittenWith, outline_of}
use Rattle.wasm_dumper.proofs.Numbering.{all_more, events_begin, events_more, end_none}
use Rattle.wasm_streams.proofs.ForCallers.{AtEnd, IsEnding, IsEvent, all_given, begins_with, consumed, next_asks, next_ends, next_event}
use Rattle.wasm_streams.proofs.ForCallers.{reads_on}
use Rattle.wasm_parser.proofs.ForCallers.{end_consumes_all}
use Rattle.wasm_output.proofs.ForCallers.{as_going, as_short}
use Rattle.wasm_streams.specs.declared.turns.Turn.TheVariants as turn
use Rattle.wasm_streams.proofs.ForCallers as progress
use Rattle.wasm_output.specs.Tree as Tree
use Rattle.wasm_output.specs.Json as json

-- a source before and after, and whether it had failed and has
abbrev pub source : (full rest : Option (List ℕ)) (had has : Bool) → Device
source full rest had has = record { before = full; after = rest; had_failed = had; has_failed = has }

-- what is shown of a result continues from what was shown of events to that of these
abbrev pub Continues : List Only → (has_bytes : Bool) → Counts → Told → (old new : List Event) → Type 0
Continues only has_bytes c x old new = ((why : Option ListError) (numbers shown : List Number)
    → AreOfEvents why only no_counts old numbers → AreOfAnswer why only c x shown
    → AreOfEvents why only no_counts new (numbers ++ shown))
    × (bytes_of_events has_bytes only new ≡ bytes_of_events has_bytes only old ++ bytes_of_answer has_bytes only x)

none_of_events : (has_bytes : Bool) (only : List Only) → [] ≡ bytes_of_events has_bytes only []
none_of_events true only = refl
none_of_events false only = refl

-- nothing is shown yet
pub starts : (only : List Only) (has_bytes : Bool) (full : Option (List ℕ)) (w : Writing) (c : Counts) → c ≡ no_counts
    → Dumping only has_bytes full full w (new_feed 0 all_features) c w
starts only has_bytes full w c none_counted = record {
  events = [];
  reached = progress.nothing_read full;
  counted = none_counted;
  writing = λ taken failed i. (
    [],
    refl,
    subst (λ (x : List ℕ). IsWritten (origin w.style taken failed [] [] x) w) (none_of_events has_bytes only) i,
  );
}

-- ---- what is counted

-- no whole stream was read
pub not_whole : (left : List ℕ) → false ≡ true → left ≡ []
not_whole left e = cc

-- the numbers of what the source gave, perhaps with more bytes than were pushed
pub numbers_of : (why : Option ListError) (whole : Bool) (only : List Only) (has_bytes : Bool) (full rest : Option (List ℕ)) (f : Feed)
    (events : List Event) → Reached full rest f events → (rest' : Option (List ℕ)) (piece : List ℕ) → Consumes rest rest' piece
    → (numbers : List Number) → (whole ≡ true → f.held ++ piece ≡ []) → AreOfEvents why only no_counts events numbers
    → AreOfSource why whole only has_bytes (from_to full rest') numbers (bytes_of_events has_bytes only events)
numbers_of why whole only has_bytes full rest f events r rest' piece more numbers none a = record {
  none_left = none;
  given = r.given ++ piece;
  events = events;
  left = f.held ++ piece;
  consumed = ap (λ (x : List ℕ). x ++ piece) (consumed full rest f events r) ∙ append_assoc (consumed_by events) f.held piece;
  are_bytes = refl;
  gave = Consumes-trans full rest rest' r.given piece r.gave more;
  begins = begins_with full rest f events r piece;
  are_of = a;
}

-- the bytes of one event more
pub bytes_more : (has_bytes : Bool) (only : List Only) (events : List Event) (e : Event) (r : Report) (bytes : List ℕ) → r ≡ e.report
    → e.consumed ≡ bytes → bytes_of_events has_bytes only (events ++ e ∷ [])
    ≡ bytes_of_events has_bytes only events ++ shown_bytes has_bytes only r bytes
bytes_more true only events e r bytes same is = flat_map-append (λ x. bytes_of_event only x) events (e ∷ [])
    ∙ ap (λ (x : List ℕ). flat_map (λ y. bytes_of_event only y) events ++ x) (append-nil (bytes_of_event only e)
    ∙ (ap (λ (x : Report). if is_chosen only x then e.consumed else []) (sym same)
    ∙ ap (λ (x : List ℕ). if is_chosen only r then x else []) is))
bytes_more false only events e r bytes same is = refl

abbrev nothing : List ℕ
nothing = []

nothing_either : (b : Bool) → (if b then nothing else nothing) ≡ nothing
nothing_either true = refl
nothing_either false = refl

none_shown : (has_bytes : Bool) (only : List Only) (r : Report) (bytes : List ℕ) → bytes ≡ [] → shown_bytes has_bytes only r bytes ≡ []
none_shown true only r bytes e = ap (λ (x : List ℕ). if is_chosen only r then x else nothing) e ∙ nothing_either (is_chosen only r)
none_shown false only r bytes e = refl

module _ (only : List Only) (has_bytes : Bool) (events : List Event) (c : Counts) (k : c ≡ after_all no_counts events) where
  -- after an event
  counted_on : (x : Told) (e : Event) → IsEvent x e
      → (after_answer c x ≡ after_all no_counts (events ++ e ∷ [])) × Continues only has_bytes c x events (events ++ e ∷ [])
  counted_on (tells.Part report bytes) e (n, says, is) = (
    ap (λ (r : Report). after c r) says ∙ (ap (λ (d : Counts). after d e.report) k ∙ sym (all_more no_counts events e)),
    (
      λ why numbers shown a b. events_more why only no_counts events numbers e shown a
          (subst₂ (λ (d : Counts) (r : Report). AreOf why only d r shown) k says b),
      bytes_more has_bytes only events e report bytes says is,
    ),
  )
  counted_on _ e is = absurd is

  -- where nothing is shown
  counted_still : (x : Told) → ((why : Option ListError) (shown : List Number) → AreOfAnswer why only c x shown → shown ≡ [])
      → bytes_of_answer has_bytes only x ≡ [] → Continues only has_bytes c x events events
  counted_still x none no_byte = (
    λ why numbers shown a b. subst (AreOfEvents why only no_counts events)
        (sym (ap (λ (y : List Number). numbers ++ y) (none why shown b) ∙ append-nil numbers)) a,
    sym (ap (λ (y : List ℕ). bytes_of_events has_bytes only events ++ y) no_byte ∙ append-nil (bytes_of_events has_bytes only events)),
  )

  -- at an end
  counted_last : (x : Told) (end : Ending) → IsEnding x end → Continues only has_bytes c x events events
  counted_last (Request hint) end is = absurd is
  counted_last (tells.Part report bytes) end is = counted_still (tells.Part report bytes)
      (λ why shown b. end_none why only c report shown is.0 b) (none_shown has_bytes only report bytes is.2)
  counted_last (Stop e) end is = counted_still (Stop e) (λ why shown b. b) refl

empty : (bytes : List ℕ) → length bytes ≡ 0 → bytes ≡ []
empty [] e = refl
empty (b ∷ bytes) e = absurd (omega arith)

-- at the stream's end nothing is held
held_none : (full rest : Option (List ℕ)) (f : Feed) (events : List Event) (r : Reached full rest f events) (how : Ended)
    (end : Ending) → AtEnd r.given events f.eof how end → is_whole (Ok how) ≡ true → f.held ++ [] ≡ []
held_none full rest f events r End end a w =
    let (offset, e, l) = a.whole refl in
    let reading = subst (λ (y : Ending). Reading r.given 0 all_features (events ++ last_event y ∷ [])) e
    (a.within l r.given (all_given f.eof r.given)) in
    let same : length (consumed_by events) ≡ length (consumed_by events ++ f.held) =
    ap (λ (x : List ℕ). length x) (sym (end_consumes_all r.given 0 all_features events offset reading) ∙ consumed full rest f events r) in
    append-nil f.held ∙ empty f.held (omega (arith, same, length-append (consumed_by events) f.held))
held_none full rest f events r (Fault e) end a w = cc

-- ---- what was written, at an end

none_begun : (b : Bool) (line : List Part) → b ≡ false → begun b line ≡ []
none_begun b line e = ap (λ (x : Bool). begun x line) e

no_numbers_begun : (b : Bool) (line : List Part) → b ≡ false → begun_numbers b line ≡ []
no_numbers_begun b line e = ap (λ (x : Bool). begun_numbers x line) e

-- all of it
whole_in : (style : Style) (o : Origin) (w : Writing) → w.style ≡ style → w.why ≡ None → IsOut w → IsGoingIn style o w
    → WritesWhole style o.taken w.taken o.outline o.numbers o.bytes
whole_in (Lines base) o w same going out g =
    let ended : w.is_begun ≡ false = out.none_begun going (ap are_lines same) in
    let all : g.written ≡ g.text = sym (append-nil g.written) ∙ (ap (λ (x : List ℕ). g.written ++ x) (sym (out.none_waits going))
    ∙ (g.parts ∙ (ap (λ (x : List ℕ). g.text ++ x) (none_begun w.is_begun g.line ended) ∙ append-nil g.text))) in
    let numbered : g.lined ≡ o.numbers = sym (g.numbered
    ∙ (ap (λ (x : List Number). g.lined ++ x) (no_numbers_begun w.is_begun g.line ended) ∙ append-nil g.lined)) in
    let rowed : g.rows ≡ o.bytes = sym (g.rowed
    ∙ (ap (λ (x : List ℕ). g.rows ++ x) (out.all_shown going (ap are_lines same)) ∙ append-nil g.rows)) in
    record {
      text = g.text;
      shaped = subst₂ (λ (x : List Number) (y : List ℕ). IsOutlined base g.text o.outline x y) numbered rowed g.outlined;
      wrote = subst (Appends o.taken w.taken) all g.took;
    }
whole_in Objects o w same going out g = record {
  text = g.written;
  shaped = subst₂ (λ (x : List ℕ) (spot : Spot). IsAt spot (json.after_all json.start x))
      (ap (λ (x : List ℕ). g.written ++ x) (out.none_waits going) ∙ append-nil g.written) (out.outside going same) g.is_at;
  wrote = g.took;
}

pub whole : (o : Origin) (w : Writing) → w.why ≡ None → IsOut w → IsWritten o w
    → WritesWhole o.style o.taken w.taken o.outline o.numbers o.bytes
whole o w going out i = whole_in o.style o w i.0 going out (as_going o w going i)

some_of : (o : Origin) (w : Writing) → WritesWhole o.style o.taken w.taken o.outline o.numbers o.bytes
    → WritesSome o.style o.taken w.taken o.outline o.numbers o.bytes
some_of o w s = record {
  text = s.text;
  unwritten = [];
  shaped = subst (λ (x : List ℕ). IsShaped o.style x o.outline o.numbers o.bytes) (sym (append-nil s.text)) s.shaped;
  wrote = s.wrote;
}

failed_in : (style : Style) (o : Origin) (w : Writing) → IsGoingIn style o w → w.has_failed ≡ o.has_failed
failed_in (Lines base) o w g = g.failed
failed_in Objects o w g = g.failed

-- the sink has failed only if it had
pub has_failed : (o : Origin) (w : Writing) → w.why ≡ None → IsWritten o w → w.has_failed ≡ o.has_failed
has_failed o w going i = failed_in o.style o w (as_going o w going i)

-- where the tree has stopped, some may be missing
source_begins : (why : Option ListError) (whole : Bool) (stop : ListError) (only : List Only) (has_bytes : Bool) (input : Change)
    (numbers : List Number) (bytes : List ℕ) → AreOfSource why whole only has_bytes input numbers bytes
    → AreOfSource (Some stop) false only has_bytes input numbers bytes
source_begins why whole stop only has_bytes input numbers bytes a = record {
  none_left = not_whole a.left;
  given = a.given;
  events = a.events;
  gave = a.gave;
  left = a.left;
  consumed = a.consumed;
  are_bytes = a.are_bytes;
  begins = a.begins;
  are_of = events_begin why stop only no_counts a.events numbers a.are_of;
}

-- those where it goes on are such in any case
pub events_are : (why : Option ListError) (only : List Only) (c : Counts) (events : List Event) (numbers : List Number)
    → AreOfEvents None only c events numbers → AreOfEvents why only c events numbers
events_are None only c events numbers a = a
events_are (Some why) only c events numbers a = events_begin None why only c events numbers a

-- a dump, by what it lists, counts and writes
pub dumped : {style : Style} {only : List Only} {has_bytes : Bool} {input : Device} {taken : Option (List ℕ)} {failed : Bool}
    {how : Result Ended ListError} {w : Writing} (outline : List ℕ) (numbers : List Number) (bytes : List ℕ)
    → ListsBy (chosen_line style only) (bytes_of input) (from_to (Some []) (Some outline)) how
    → AreOfSource (stopped_by how) (is_whole how) only has_bytes (bytes_of input) numbers bytes
    → Writes style how taken w.taken outline numbers bytes → input.has_failed ≡ input_failed how input.had_failed
    → w.has_failed ≡ output_failed how failed → DumpsFrom style only has_bytes input taken failed how w
dumped outline numbers bytes lists counts writes source sink = record {
  dumps = record { outline = outline; numbers = numbers; bytes = bytes; lists = lists; counts = counts; writes = writes };
  source = source;
  sink = sink;
}

-- a dump that was cut short, or whose input failed
cut_off : (style : Style) (only : List Only) (has_bytes : Bool) (full rest : Option (List ℕ)) (had has : Bool) → has ≡ had
    → (taken : Option (List ℕ)) (failed : Bool) (outline : List ℕ) (numbers : List Number) (bytes : List ℕ) (why : ListError)
    (w : Writing)
    → IsHead (chosen_line style only) (from_to full rest) (from_to (Some []) (Some outline))
    → AreOfSource (Some why) false only has_bytes (from_to full rest) numbers bytes
    → IsCutShort (origin style taken failed outline numbers bytes) why w → DumpsFrom style only has_bytes
    (source full rest had has) taken failed (Err why) w
cut_off style only has_bytes full rest had has h taken failed outline numbers bytes Output w b n c = dumped outline numbers bytes b n
    (record { text = c.written; unwritten = c.unwritten; shaped = c.shaped; wrote = c.took }) h c.failed
cut_off style only has_bytes full rest had has h taken failed outline numbers bytes Memory w b n c = dumped outline numbers bytes b n
    (record { text = c.written; unwritten = c.unwritten; shaped = c.shaped; wrote = c.took }) h c.failed
cut_off style only has_bytes full rest had has h taken failed outline numbers bytes Input w b n c = absurd (c.no_input refl)

-- what was listed is a prefix
nothing_cut : (outline : Option (List ℕ)) → WritesHead outline outline []
nothing_cut outline = record { moved = []; unwritten = []; parts = refl; wrote = Appends-nil outline }

-- all of these events are listed
abbrev listed : (only : List Only) (style : Style) (full rest : Option (List ℕ)) (f : Feed) (events : List Event)
    → Reached full rest f events
    → Progress (listing_by (chosen_line style only)) (from_to full rest) (from_to (Some []) (Some (outline_of style only events))) f []
listed only style full rest f events r = record {
  events = events;
  reached = r;
  puts = record { moved = outline_of style only events; writes = refl; waits = sym (append-nil (outline_of style only events)) };
}

-- the tree has stopped after these events were shown
pub stopped_after : (only : List Only) (has_bytes : Bool) (full rest : Option (List ℕ)) (before : Writing) (f : Feed) (events : List Event)
    → Reached full rest f events → (had has : Bool) → has ≡ had → (why : Option ListError) (now last : Writing) (stop : ListError)
    → ((taken : Option (List ℕ)) (failed : Bool) → IsFresh before taken failed
    → WrittenWith why only has_bytes events before.style taken failed (outline_of before.style only events) now)
    → Adds now last → last.why ≡ Some stop → DumpsInto only has_bytes (source full rest had has) before (Err stop) last
stopped_after only has_bytes full rest before f events r had has h why now last stop wrote a w taken failed i =
    let (numbers, are, going) = wrote taken failed i in
    let outline = outline_of before.style only events in
    cut_off before.style only has_bytes full rest had has h taken failed outline numbers (bytes_of_events has_bytes only events) stop last
    (progress.cut (chosen_line before.style only) full rest (Some []) (Some outline) f []
    (listed only before.style full rest f events r) (Some outline) Output (nothing_cut (Some outline)))
    (source_begins why false stop only has_bytes _ numbers _ (numbers_of why false only has_bytes full rest f events r rest []
    (Consumes-nil rest) numbers (not_whole (f.held ++ [])) are)) (as_short _ last stop w (a _ going))

-- it has before a step
pub stopped_before : (only : List Only) (has_bytes : Bool) (full rest : Option (List ℕ)) (before : Writing) (f : Feed) (c : Counts)
    (now : Writing) → Dumping only has_bytes full rest before f c now → (had has : Bool) → has ≡ had → (last : Writing)
    (why : ListError) → Adds now last → last.why ≡ Some why → DumpsInto only has_bytes (source full rest had has) before (Err why) last
stopped_before only has_bytes full rest before f c now d had has h last why a w =
    stopped_after only has_bytes full rest before f d.events d.reached had has h None now last why d.writing a w

-- ---- a step

-- the lines of a listing by what is shown, all of which are written
puts : (outline line : List ℕ) → PutsBytes (Some outline) (Some (outline ++ line)) [] line []
puts outline line = record { moved = line; writes = refl; waits = sym (append-nil line) }

-- How far a dump has come where the feeder asks for more.
pub record Wanting (only : List Only) (has_bytes : Bool) (full rest : Option (List ℕ)) (before : Writing) (f : Feed)
    (c : Counts) (now : Writing) : Type 0 where
  pub events : List Event
  pub asks : Asks full rest f events
  pub counted : c ≡ after_all no_counts events
  pub writing : HasWritten only has_bytes before events now

pub wanted : (only : List Only) (has_bytes : Bool) (full rest : Option (List ℕ)) (before : Writing) (e : Feed) (c : Counts) (now : Writing)
    → Dumping only has_bytes full rest before e c now → (f : Feed) (hint : ℕ) → Moves e (Request hint) f
    → Wanting only has_bytes full rest before f c now
wanted only has_bytes full rest before e c now d f hint s =
    let (h, is, asks, same) = next_asks full rest e d.events d.reached f (Request hint) s refl in
    record { events = d.events; asks = asks; counted = d.counted; writing = d.writing }

-- A step of the feeder was shown, and this is done next.
pub record ShowsStep (only : List Only) (has_bytes : Bool) (counts counts' : Counts) (old new : Feed) (before after : Writing) (next : Turn)
    : Type 0 where
  pub answer : Told
  pub steps : Moves old answer new
  pub turns : next ≡ turn_after answer
  pub shows : ShowsAnswer only has_bytes counts answer before after
  pub counted : counts' ≡ after_answer counts answer
  pub no_request : (hint : ℕ) → answer ≡ Request hint → ⊥

module _ (only : List Only) (has_bytes : Bool) (full rest : Option (List ℕ)) (before : Writing) (f : Feed) (c : Counts) (now : Writing)
    (d : Dumping only has_bytes full rest before f c now) (g : Feed) (c' : Counts) (new : Writing) (next : Turn)
    (s : ShowsStep only has_bytes c c' f g now new next) where
  abbrev line_of : Report → List ℕ
  line_of = chosen_line before.style only

  -- the outline, and with the lines of the result
  abbrev outlined : List ℕ
  outlined = outline_of before.style only d.events

  abbrev outline : List ℕ
  outline = outlined ++ text_after line_of s.answer

  -- what was written, with the numbers of events that go on as these by what is shown
  written : (events : List Event) → Continues only has_bytes c s.answer d.events events → (taken : Option (List ℕ)) (failed : Bool)
      → IsFresh before taken failed → WrittenWith new.why only has_bytes events before.style taken failed outline new
  written events more taken failed i =
      let (numbers, are, going) = d.writing taken failed i in
      let (shown, of, after) = s.shows (origin before.style taken failed outlined numbers (bytes_of_events has_bytes only d.events))
      going in (
        numbers ++ shown,
        more.0 new.why numbers shown (events_are new.why only no_counts d.events numbers are) of,
        subst (λ (x : List ℕ). IsWritten (origin before.style taken failed outline (numbers ++ shown) x) new) (sym more.1) after,
      )

  -- the same, where the tree goes on
  going_on : new.why ≡ None → (events : List Event) → outline ≡ outline_of before.style only events
      → Continues only has_bytes c s.answer d.events events → HasWritten only has_bytes before events new
  going_on going events same more taken failed i =
      subst₂ (λ (why : Option ListError) (o : List ℕ). WrittenWith why only has_bytes events before.style taken failed o new) going same
      (written events more taken failed i)

  -- a request is not shown
  no_read : next ≡ turn.Read → ⊥
  no_read t =
      let (hint, is, asks, same) = next_asks full rest f d.events d.reached g s.answer s.steps (sym t ∙ s.turns) in s.no_request hint is

  pub advanced : new.why ≡ None → next ≡ turn.Advance → Dumping only has_bytes full rest before g c' new × (weight g < weight f)
  advanced going t =
      let (e, is, after, less) = next_event full rest f d.events d.reached g s.answer s.steps (sym t ∙ s.turns) in
      let (k, more) = counted_on only has_bytes d.events c d.counted s.answer e is in (
        record {
          events = d.events ++ e ∷ [];
          reached = after;
          counted = s.counted ∙ k;
          writing = going_on going (d.events ++ e ∷ []) (sym (progress.text_of_event line_of s.answer d.events e is)) more;
        },
        less,
      )

  -- the listing of what was shown
  abbrev all_listed : Progress (listing_by line_of) (from_to full rest) (from_to (Some []) (Some outlined)) f []
  all_listed = listed only before.style full rest f d.events d.reached

  put : PutsBytes (Some outlined) (Some outline) [] (text_after line_of s.answer) []
  put = puts outlined (text_after line_of s.answer)

  begins : (t : Turn) → next ≡ t → IsHead line_of (from_to full rest) (from_to (Some []) (Some outline))
  begins turn.Advance t =
      let p = (progress.line_advanced line_of full rest (Some []) (Some outlined) f [] all_listed g s.answer s.steps (Some outline) [] put
      (sym t ∙ s.turns)).0 in
      progress.cut line_of full rest (Some []) (Some outline) g [] p (Some outline) Output (nothing_cut (Some outline))
  begins turn.Read t = absurd (no_read t)
  begins (turn.End how) t = progress.end_cut line_of full rest (Some []) (Some outlined) f [] all_listed g s.answer s.steps
      (Some outline) []
      put how (sym t ∙ s.turns) (Some outline) Output (nothing_cut (Some outline))

  -- whether all of the stream was read, by what is done next
  abbrev ends_whole : Turn → Bool
  ends_whole (turn.End how) = is_whole (Ok how)
  ends_whole other = false

  -- what was written, with the numbers of what the source gave
  abbrev AllWritten : (whole : Bool) (taken : Option (List ℕ)) (failed : Bool) → Type 0
  AllWritten whole taken failed = (numbers : List Number) × (bytes : List ℕ)
      × AreOfSource new.why whole only has_bytes (from_to full rest) numbers bytes
      × IsWritten (origin before.style taken failed outline numbers bytes) new

  written_of : (whole : Bool) (h : Feed) (events : List Event) → Reached full rest h events → (whole ≡ true → h.held ++ [] ≡ [])
      → Continues only has_bytes c s.answer d.events events → (taken : Option (List ℕ)) (failed : Bool) → IsFresh before taken failed
      → AllWritten whole taken failed
  written_of whole h events r none more taken failed i =
      let (numbers, are, going) = written events more taken failed i in (
        numbers,
        bytes_of_events has_bytes only events,
        numbers_of new.why whole only has_bytes full rest h events r rest [] (Consumes-nil rest) numbers none are,
        going,
      )

  all_written : (t : Turn) → next ≡ t → (taken : Option (List ℕ)) (failed : Bool) → IsFresh before taken failed
      → AllWritten (ends_whole t) taken failed
  all_written turn.Advance t =
      let (e, is, after, less) = next_event full rest f d.events d.reached g s.answer s.steps (sym t ∙ s.turns) in
      written_of false g (d.events ++ e ∷ []) after (not_whole (g.held ++ []))
      (counted_on only has_bytes d.events c d.counted s.answer e is).1
  all_written turn.Read t = absurd (no_read t)
  all_written (turn.End how) t =
      let (end, a, is) = next_ends full rest f d.events d.reached g s.answer s.steps how (sym t ∙ s.turns) in
      written_of (is_whole (Ok how)) f d.events d.reached (held_none full rest f d.events d.reached how end a)
      (counted_last only has_bytes d.events c d.counted s.answer end is)

  -- the tree has stopped
  pub stopped : (had has : Bool) → has ≡ had → (why : ListError) → new.why ≡ Some why
      → DumpsInto only has_bytes (source full rest had has) before (Err why) new
  stopped had has h why w taken failed i =
      let (numbers, bytes, are, going) = all_written next refl taken failed i in
      cut_off before.style only has_bytes full rest had has h taken failed _ numbers bytes why new (begins next refl)
      (source_begins new.why (ends_whole next) why only has_bytes _ numbers bytes are) (as_short _ new why w going)

  -- it has after all was to be written
  pub stopped_at_last : (had has : Bool) → has ≡ had → (last : Writing) (why : ListError) → Adds new last → last.why ≡ Some why
      → DumpsInto only has_bytes (source full rest had has) before (Err why) last
  stopped_at_last had has h last why a w taken failed i =
      let (numbers, bytes, are, going) = all_written next refl taken failed i in
      cut_off before.style only has_bytes full rest had has h taken failed _ numbers bytes why last (begins next refl)
      (source_begins new.why (ends_whole next) why only has_bytes _ numbers bytes are) (as_short _ last why w (a _ going))

  -- all is written
  pub ended : (had has : Bool) → has ≡ had → new.why ≡ None → (how : Ended) (last : Writing) → next ≡ turn.End how → Adds new last
      → IsOut last → last.why ≡ None → DumpsInto only has_bytes (source full rest had has) before (Ok how) last
  ended had has h went how last t a out going taken failed i =
      let (numbers, bytes, are, wrote) = all_written (turn.End how) t taken failed i in
      let o = origin before.style taken failed outline numbers bytes in
      let all = a o wrote in
      dumped outline numbers bytes
      (progress.listed_all line_of full rest (Some []) (Some outlined) f [] all_listed g s.answer s.steps (Some outline) [] put how
      (sym t ∙ s.turns) (Some outline) (Appends-nil (Some outline)))
      (subst (λ (why : Option ListError). AreOfSource why (is_whole (Ok how)) only has_bytes (from_to full rest) numbers bytes) went are)
      (whole o last going out all) h (has_failed o last going all)

-- what the tree has written afterwards
pub same_written : (only : List Only) (has_bytes : Bool) (full rest : Option (List ℕ)) (before : Writing) (f : Feed) (c : Counts)
    (now last : Writing) → last ≡ now → Dumping only has_bytes full rest before f c now → Dumping only has_bytes full rest before f c last
same_written only has_bytes full rest before f c now last same d =
    subst (λ (w : Writing). Dumping only has_bytes full rest before f c w) (sym same) d

-- ---- a read

module _ (only : List Only) (has_bytes : Bool) (full rest : Option (List ℕ)) (before : Writing) (f : Feed) (c : Counts) (now last : Writing)
    (d : Wanting only has_bytes full rest before f c now) (a : Adds now last) (out : IsOut last) (going : last.why ≡ None) where
  -- what was to be written is written
  pub all : HasWritten only has_bytes before d.events last
  all taken failed i = let (numbers, are, wrote) = d.writing taken failed i in (numbers, are, a _ wrote)

  pub filled : (rest' : Option (List ℕ)) (g : Feed) → FillsAlike rest rest' f g → Dumping only has_bytes full rest' before g c last
      × (weight g < weight f)
  filled rest' g r =
      let (after, less) = reads_on full rest f d.events d.asks rest' g r in
      (record { events = d.events; reached = after; counted = d.counted; writing = all }, less)

  abbrev shown_lines : List ℕ
  shown_lines = outline_of before.style only d.events

  lists : (rest' : Option (List ℕ)) (g : Feed) (e : ListError) → Refills rest rest' f g (Err e)
      → ListsBy (chosen_line before.style only) (from_to full rest') (from_to (Some []) (Some shown_lines)) (Err e)
  lists rest' g e r =
      progress.not_filled (chosen_line before.style only) full rest (Some []) (Some shown_lines) f (record {
        events = d.events;
        asks = d.asks;
        puts = (listed only before.style full rest f d.events d.asks.reached).puts;
      }) rest' g e r

  pub not_filled : (had mid has : Bool) → mid ≡ had → (rest' : Option (List ℕ)) (g : Feed) (e : ListError)
      → Refills rest rest' f g (Err e)
      → has ≡ input_failed {A = Unit {0}} (Err e) mid → DumpsInto only has_bytes (source full rest' had has) before (Err e) last
  not_filled had mid has m rest' g Input r h taken failed i =
      let (numbers, are, wrote) = all taken failed i in
      let bytes = bytes_of_events has_bytes only d.events in
      let o = origin before.style taken failed shown_lines numbers bytes in
      dumped shown_lines numbers bytes (lists rest' g Input r)
      (numbers_of None false only has_bytes full rest f d.events d.asks.reached rest' []
      (Consumes-kept rest rest rest' [] (Consumes-nil rest) r) numbers (not_whole (f.held ++ [])) are) (whole o last going out wrote) h
      (has_failed o last going wrote)
  not_filled had mid has m rest' g Memory r h taken failed i =
      let (numbers, are, wrote) = all taken failed i in
      let bytes = bytes_of_events has_bytes only d.events in
      let o = origin before.style taken failed shown_lines numbers bytes in
      dumped shown_lines numbers bytes (lists rest' g Memory r) (numbers_of
      (Some Memory) false only has_bytes full rest f d.events d.asks.reached
      rest' r.0 r.1 numbers (not_whole (f.held ++ r.0)) (events_begin None Memory only no_counts d.events numbers are))
      (some_of o last (whole o last going out wrote)) (h ∙ m) (has_failed o last going wrote)
  not_filled had mid has m rest' g Output r h taken failed i = absurd r

  -- an allocation failed
  pub without_memory : (had has : Bool) → has ≡ had → (e : ListError) → e ≡ Memory
      → DumpsInto only has_bytes (source full rest had has) before (Err e) last
  without_memory had has h e is =
      subst (λ (x : ListError). DumpsInto only has_bytes (source full rest had has) before (Err x) last) (sym is)
      (not_filled had has has h rest f Memory ([], Consumes-nil rest) refl)

-- ---- the whole

nothing_outlined : (base : Base) → IsOutlined base [] [] [] []
nothing_outlined base = record { lines = []; whole = refl; parts = refl; outlines = refl; numbered = refl; rowed = refl }

-- a writer that has written nothing
fresh_in : (style : Style) (taken : Option (List ℕ)) (failed : Bool)
    → IsGoingIn style (origin style taken failed [] [] []) (Tree.starts_in style taken failed)
fresh_in (Lines base) taken failed = record {
  written = [];
  text = [];
  lined = [];
  rows = [];
  line = [];
  outlined = nothing_outlined base;
  one_line = refl;
  parts = refl;
  numbered = refl;
  rowed = refl;
  took = Appends-nil taken;
  failed = refl;
}
fresh_in Objects taken failed = record { written = []; is_at = refl; took = Appends-nil taken; failed = refl }

pub fresh : (style : Style) (taken : Option (List ℕ)) (failed : Bool) (w : Writing) → w ≡ Tree.starts_in style taken failed
    → IsWritten (origin w.style taken failed [] [] []) w
fresh style taken failed w e =
    subst (λ (x : Writing). IsWritten (origin x.style taken failed [] [] []) x) (sym e) (refl, fresh_in style taken failed)

pub by_tree : (only : List Only) (has_bytes : Bool) (input : Device) (old new : Writing) (result : Result Ended ListError)
    → DumpsInto only has_bytes input old result new → DumpsByTree only has_bytes input old result new
by_tree only has_bytes input old new result d style taken failed s =
    subst (λ (x : Style). DumpsFrom x only has_bytes input taken failed result new) (ap (λ (w : Writing). w.style) s)
    (d taken failed (fresh style taken failed old s))

nothing_shaped : (style : Style) → IsShaped style [] [] [] []
nothing_shaped (Lines base) = nothing_outlined base
nothing_shaped Objects = refl

-- no memory to begin with
pub no_room : (style : Style) (only : List Only) (has_bytes : Bool) (full : Option (List ℕ)) (had : Bool) (taken : Option (List ℕ))
    (failed : Bool) (w : Writing) → w ≡ Tree.starts_in style taken failed
    → DumpsFrom style only has_bytes (source full full had had) taken failed (Err Memory) w
no_room style only has_bytes full had taken failed w e =
    let none = progress.nothing_read full in
    subst (DumpsFrom style only has_bytes (source full full had had) taken failed (Err Memory)) (sym e) (dumped [] [] []
    (progress.no_memory (chosen_line style only) full full (Some []) (Some []) (new_feed 0 all_features) []
    (listed only style full full (new_feed 0 all_features) [] none) full [] (Consumes-nil full))
    (subst (AreOfSource (Some Memory) false only has_bytes (from_to full full) []) (sym (none_of_events has_bytes only))
    (numbers_of (Some Memory) false only has_bytes full full (new_feed 0 all_features) [] none full [] (Consumes-nil full) [] (not_whole [])
    refl)) (record { text = []; unwritten = []; shaped = nothing_shaped style; wrote = Appends-nil taken }) refl refl)
