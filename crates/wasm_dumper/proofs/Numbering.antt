-- The numbers of items, as they are counted and shown.
use Rattle.wasm_dumper.proofs.Common.{◌≡◌, ℕ, Bool, true, false, List, [], ◌∷◌, ◌++◌, Some, None, refl, sym, ap, subst, subst₂, ◌∙◌}
use Rattle.wasm_dumper.proofs.Common.{append-nil, Option, append_assoc, if◌then◌else◌, fault_at, Error, Told, Stop, fault, Ending, Report}
use Rattle.wasm_dumper.proofs.Common.{counted, Event, stream_end, line_in, report_of, ListError, Base, Number, Writing, IsWritten}
use Rattle.wasm_dumper.proofs.Common.{with_numbers, AddsThese, AddsNumbers, Adds, base_of, Origin, AddsFirst, is_chosen, shown_line}
use Rattle.wasm_dumper.proofs.Common.{numbered_line, after, after_all, numbers_in_line, shows_items, AreOfItemsIf, ShowsItemsIf}
use Rattle.wasm_dumper.proofs.Common.{AreOfShown, ShowsAnswer, shown_bytes, AreOf, AreOfEvents, Counts, Only}
use Rattle.wasm_dumper.specs.Dump.{AreOfItems, ShowsItems, ShowsReport}
use Rattle.wasm_dumper.specs.Walks.{counted_seen, items_of_report}
use Rattle.wasm_grammar.specs.Content.{ended}
use Rattle.wasm_grammar.specs.Reading.{custom_section}
use Rattle.wasm_frames.specs.Answer.{is_end}
use Rattle.wasm_parser.specs.declared.payload.Payload.{Payload}
use Rattle.wasm_parser.specs.declared.payload.Payload.TheVariants.{CustomSection}
use Rattle.wasm_output.specs.Numbers.{AreShown}
use Rattle.wasm_output.specs.Tree.{with_line, AddsAll, AddsBytes, with_bytes}
use Rattle.wasm_show.specs.Seen.{faulty, numbers_of}
use Rattle.wasm_show.specs.Walk.{Sees}
use Rattle.wasm_show.proofs.ForCallers.{seen_shown}
use Rattle.wasm_dumper.proofs.EventLines.{line_is_first}

-- ---- numbers that are shown one after the other

pub no_numbers : (o : Origin) (w : Writing) → IsWritten o w → IsWritten (with_numbers o []) w
no_numbers o w i = subst (λ (x : List Number). IsWritten (record o { numbers = x }) w) (sym (append-nil o.numbers)) i

pub joined : (o : Origin) (one later : List Number) (w : Writing) → IsWritten (with_numbers (with_numbers o one) later) w
    → IsWritten (with_numbers o (one ++ later)) w
joined o one later w i = subst (λ (x : List Number). IsWritten (record o { numbers = x }) w) (append_assoc o.numbers one later) i

-- what is under a line may show none of them
pub shows_none : (allowed : List Number → Type 0) (old new : Writing) → allowed [] → Adds old new → AddsNumbers allowed old new
shows_none allowed old new held a o i = ([], held, no_numbers o new (a o i))

-- where the writer has stopped, some of them may be missing
all_begin : (why : Option ListError) (stop : ListError) (shown all : List Number) → AreShown why shown all
    → AreShown (Some stop) shown all
all_begin None stop shown all e = ([], sym e ∙ sym (append-nil shown))
all_begin (Some why) stop shown all b = b

-- ---- those of what is reported

items_begin : (why : Option ListError) (stop : ListError) (c : Counts) (r : Report) (shown : List Number) → AreOfItems why c r shown
    → AreOfItems (Some stop) c r shown
items_begin why stop c (counted id count window) shown a =
    all_begin why stop shown (numbers_of (counted_seen false c id count window)) a
items_begin why stop c other shown a = a

items_begin_if : (why : Option ListError) (stop : ListError) (has_items : Bool) (c : Counts) (r : Report) (shown : List Number)
    → AreOfItemsIf why has_items c r shown → AreOfItemsIf (Some stop) has_items c r shown
items_begin_if why stop true c r shown a = items_begin why stop c r shown a
items_begin_if why stop false c r shown a = a

shown_begin : (why : Option ListError) (stop : ListError) (chosen has_items : Bool) (c : Counts) (r : Report) (shown : List Number)
    → AreOfShown why chosen has_items c r shown → AreOfShown (Some stop) chosen has_items c r shown
shown_begin why stop true has_items c r shown (items, parts, a) = (items, parts, items_begin_if why stop has_items c r items a)
shown_begin why stop false has_items c r shown a = a

pub events_begin : (why : Option ListError) (stop : ListError) (only : List Only) (c : Counts) (events : List Event)
    (numbers : List Number)
    → AreOfEvents why only c events numbers → AreOfEvents (Some stop) only c events numbers
events_begin why stop only c [] numbers a = a
events_begin why stop only c (x ∷ events) numbers (one, later, of, parts, rest) = (
  one,
  later,
  shown_begin why stop (is_chosen only x.report) (shows_items only) c x.report one of,
  parts,
  events_begin why stop only (after c x.report) events later rest,
)

-- ---- the items of a payload

abbrev is_custom : Report → Bool
is_custom (custom_section name offset w) = true
is_custom other = false

pub not_custom : (p : Payload) → ((s : _) → p ≡ CustomSection s → ⊥) → is_custom (report_of p) ≡ false
not_custom (CustomSection s) n = absurd (n s refl)
not_custom other n = refl

begins_nothing : (why : Option ListError) (shown : List Number) → AreShown why shown [] → shown ≡ []
begins_nothing None shown e = e
begins_nothing (Some why) [] b = refl
begins_nothing (Some why) (n ∷ shown) b = absurd (let no : [] ≡ n ∷ (shown ++ b.0) = b.1 in cc)

no_items : (old new : Writing) → AddsAll [] old new → AddsNumbers (λ shown. shown ≡ []) old new
no_items old new a o i = let (shown, are, going) = a o i in (shown, begins_nothing new.why shown are, going)

module _ {W : Type 0} (writing : W → Writing) (c : Counts) (old new : W) where
  -- what was seen of its items is shown
  pub shows_report : (r : Report) → is_custom r ≡ false
      → Sees (λ since seen now. AddsThese (numbers_of seen) (writing since) (writing now)) (λ t. (writing t).why)
      (items_of_report false c r) old new → ShowsItems c r (writing old) (writing new)
  shows_report (counted id count w) n s = seen_shown writing (counted_seen false c id count w) old new s
  shows_report (custom_section name offset w) n s = absurd (let no : true ≡ false = n in cc)
  shows_report (stream_end (fault f)) n s = no_items (writing old) (writing new) (seen_shown writing (faulty f ∷ []) old new s)
  shows_report other n s = no_items (writing old) (writing new) (seen_shown writing [] old new s)

pub no_bytes : (o : Origin) (w : Writing) → IsWritten o w → IsWritten (with_bytes o []) w
no_bytes o w i = subst (λ (x : List ℕ). IsWritten (record o { bytes = x }) w) (sym (append-nil o.bytes)) i

nothing_more : (o : Origin) (w : Writing) → IsWritten o w → IsWritten (with_bytes (with_numbers (with_line o []) []) []) w
nothing_more o w i = no_bytes (with_numbers (with_line o []) []) w
    (subst₂ (λ (x : List ℕ) (y : List Number). IsWritten (record o { outline = x; numbers = y }) w)
    (sym (append-nil o.outline)) (sym (append-nil o.numbers)) i)

-- the bytes that are shown, by whether what is reported of them is
bytes_chosen : (has_bytes : Bool) (only : List Only) (r : Report) (bytes : List ℕ) → is_chosen only r ≡ true
    → shown_bytes has_bytes only r bytes ≡ (if has_bytes then bytes else [])
bytes_chosen true only r bytes chosen = ap (λ (x : Bool). if x then bytes else []) chosen
bytes_chosen false only r bytes chosen = refl

bytes_unchosen : (has_bytes : Bool) (only : List Only) (r : Report) (bytes : List ℕ) → is_chosen only r ≡ false
    → shown_bytes has_bytes only r bytes ≡ []
bytes_unchosen true only r bytes chosen = ap (λ (x : Bool). if x then bytes else []) chosen
bytes_unchosen false only r bytes chosen = refl

-- a line of the first level, if it is shown, and its items
module _ (only : List Only) (has_bytes : Bool) (c : Counts) (r : Report) (bytes : List ℕ) where
  pub shows_chosen : (old begun mid new : Writing) → is_chosen only r ≡ true → AddsBytes (if has_bytes then bytes else []) old begun
      → AddsFirst (numbered_line (base_of begun.style) c r) begun mid → ShowsItemsIf (shows_items only) c r mid new
      → ShowsReport only has_bytes c r bytes old new
  shows_chosen old begun mid new chosen p a b o i =
      let shown = if has_bytes then bytes else [] in
      let before = with_bytes o shown in
      let base = base_of o.style in
      let line = shown_line base r in
      let added = subst (λ (x : Base). AddsFirst (numbered_line x c r) begun mid) (ap base_of (p o i).0) a in
      let first = added line (numbers_in_line c r) (line_is_first base c r) before (p o i) in
      let (items, held, going) = b (with_numbers (with_line before line) (numbers_in_line c r)) first in (
        numbers_in_line c r ++ items,
        subst (λ (x : Bool). AreOfShown new.why x (shows_items only) c r (numbers_in_line c r ++ items)) (sym chosen)
            (items, refl, held),
        subst₂ (λ (x y : List ℕ). IsWritten (with_bytes (with_numbers (with_line o x) (numbers_in_line c r ++ items)) y) new)
            (sym (ap (λ (x : Bool). if x then line else []) chosen)) (sym (bytes_chosen has_bytes only r bytes chosen))
            (joined (with_line before line) (numbers_in_line c r) items new going),
      )

  pub shows_unchosen : (w : Writing) → is_chosen only r ≡ false → ShowsReport only has_bytes c r bytes w w
  shows_unchosen w chosen o i = (
    [],
    subst (λ (x : Bool). AreOfShown w.why x (shows_items only) c r []) (sym chosen) refl,
    subst₂ (λ (x y : List ℕ). IsWritten (with_bytes (with_numbers (with_line o x) []) y) w)
        (sym (ap (λ (x : Bool). if x then shown_line (base_of o.style) r else []) chosen))
        (sym (bytes_unchosen has_bytes only r bytes chosen)) (nothing_more o w i),
  )

last_chosen : (only : List Only) (end : Ending) → is_chosen only (stream_end end) ≡ true
last_chosen only end = refl

fault_shown : (only : List Only) (has_bytes : Bool) (c : Counts) (e : Error) (old new : Writing)
    → AddsFirst (line_in (base_of old.style) (stream_end (fault (fault_at e)))) old new → ShowsAnswer only has_bytes c (Stop e) old new
fault_shown only has_bytes c e old new a o i =
    let r = stream_end (fault (fault_at e)) in
    let base = base_of o.style in
    let line = shown_line base r in
    let added = subst (λ (x : Base). AddsFirst (line_in x r) old new) (ap base_of i.0) a in (
      [],
      refl,
      subst (λ (x : List ℕ). IsWritten (with_bytes (with_numbers (with_line o x) []) []) new)
          (sym (ap (λ (x : Bool). if x then line else []) (last_chosen only (fault (fault_at e)))))
          (no_bytes (with_numbers (with_line o line) []) new (added line [] (line_is_first base c r) o i)),
    )

-- a fault of the stream
module _ (only : List Only) (has_bytes : Bool) (c : Counts) (answer : Told) where
  pub shows_fault : (e : Error) (old new : Writing) → answer ≡ Stop e
      → AddsFirst (line_in (base_of old.style) (stream_end (fault (fault_at e)))) old new
      → ShowsAnswer only has_bytes c answer old new
  shows_fault e old new is a = subst (λ (x : Told). ShowsAnswer only has_bytes c x old new) (sym is)
      (fault_shown only has_bytes c e old new a)

-- ---- those of events

pub all_more : (c : Counts) (events : List Event) (e : Event) → after_all c (events ++ e ∷ []) ≡ after (after_all c events) e.report
all_more c [] e = refl
all_more c (x ∷ events) e = all_more (after c x.report) events e

pub events_more : (why : Option ListError) (only : List Only) (c : Counts) (events : List Event) (numbers : List Number) (e : Event)
    (shown : List Number)
    → AreOfEvents why only c events numbers → AreOf why only (after_all c events) e.report shown
    → AreOfEvents why only c (events ++ e ∷ []) (numbers ++ shown)
events_more why only c [] numbers e shown a b = (shown, [], b, rw a (sym (append-nil shown)), refl)
events_more why only c (x ∷ events) numbers e shown (one, later, of, parts, rest) b = (
  one,
  later ++ shown,
  of,
  ap (λ (y : List Number). y ++ shown) parts ∙ append_assoc one later shown,
  events_more why only (after c x.report) events later e shown rest b,
)

ended_none : (why : Option ListError) (has_items : Bool) (c : Counts) (offset : ℕ) (shown : List Number)
    → AreOfItemsIf why has_items c (stream_end (ended offset)) shown → shown ≡ []
ended_none why true c offset shown none = none
ended_none why false c offset shown none = none

-- no items of what is reported, of which there may be some
pub shows_items_none : (c : Counts) (r : Report) (old new : Writing) → Adds old new → ShowsItemsIf false c r old new
shows_items_none c r old new a = shows_none (AreOfItemsIf new.why false c r) old new refl a

-- the end has none
pub end_none : (why : Option ListError) (only : List Only) (c : Counts) (r : Report) (shown : List Number) → is_end r ≡ true
    → AreOf why only c r shown → shown ≡ []
end_none why only c (stream_end (ended offset)) shown e (items, parts, none) =
    parts ∙ ended_none why (shows_items only) c offset items none
end_none why only c other shown e a = cc
