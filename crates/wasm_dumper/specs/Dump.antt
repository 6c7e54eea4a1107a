-- What a dump writes.
use Rattle.std.specs.Prelude.{◌≡◌, ℕ, Bool, true, false, List, [], ◌∷◌, ◌++◌, flat_map, Option, Some, None, Result, Ok}
use Rattle.std.specs.Prelude.{Err, if◌then◌else◌}
use Rattle.std.specs.Io.KnownBytes.{Appends, Consumes}
use Rattle.wasm_base.specs.Features.{all_features}
use Rattle.wasm_grammar.specs.EventRanges.{consumed_by}
use Rattle.wasm_grammar.specs.Reading.{Report, Event, counted}
use Rattle.wasm_frames.specs.Along.{ReadingBegins}
use Rattle.wasm_io.specs.Calls.{Change, Device, bytes_of, from_to, input_failed, output_failed}
use Rattle.wasm_streams.specs.Lists.{ListsBy}
use Rattle.wasm_streams.specs.Turns.{text_after}
use Rattle.wasm_streams.specs.Step.{Told, Part, Request, Stop}
use Rattle.wasm_streams.specs.declared.turns.Ended.{Ended}
use Rattle.wasm_streams.specs.declared.turns.Ended.TheVariants.{End}
use Rattle.wasm_io.specs.declared.devices.ListError.{ListError}
use Rattle.wasm_io.specs.declared.devices.ListError.TheVariants.{Input, Output, Memory}
use Rattle.wasm_dumper.specs.Chosen.{is_chosen, chosen_line, shows_items}
use Rattle.wasm_output.specs.Numbers.{AreShown, Number}
use Rattle.wasm_show.specs.Seen.{numbers_of}
use Rattle.wasm_dumper.specs.Counting.{after, no_counts, numbers_in_line}
use Rattle.wasm_dumper.specs.Walks.{counted_seen}
use Rattle.wasm_output.specs.Tree.{IsShaped, Writing, Origin, IsWritten, AddsNumbers, with_bytes, with_line}
use Rattle.wasm_output.specs.Tree.{with_numbers}
use Rattle.wasm_output.specs.Tree.{starts_in}
use Rattle.wasm_output.specs.declared.tree.Style.{Style}
use Rattle.wasm_dumper.specs.declared.counts.Counts.{Counts}
use Rattle.wasm_dumper.specs.declared.events.Only.{Only}

-- | the numbers of the items of a report, of events, and of what a source returned [; `AreOf`, `AreOfEvents`,
--   `AreOfSource`] <Indices; this project>
-- The numbers are those of the items that are reported, up to the first fault, or where the dump has stopped.
abbrev pub AreOfItems : (why : Option ListError) → Counts → Report → List Number → Type 0
AreOfItems why c (counted id count window) shown = AreShown why shown
    (numbers_of (counted_seen false c id count window))
AreOfItems why c other shown = shown ≡ []

-- The same, if items are shown.
abbrev pub AreOfItemsIf : (why : Option ListError) (has_items : Bool) → Counts → Report → List Number → Type 0
AreOfItemsIf why true counts report numbers = AreOfItems why counts report numbers
AreOfItemsIf why false counts report numbers = numbers ≡ []

-- The numbers are those of what is reported, of its line and its items, if it is shown; otherwise there are none.
abbrev pub AreOfShown : (why : Option ListError) (shown has_items : Bool) → Counts → Report → List Number → Type 0
AreOfShown why true has_items counts report numbers = (items : List Number)
    × (numbers ≡ numbers_in_line counts report ++ items) × AreOfItemsIf why has_items counts report items
AreOfShown why false has_items counts report numbers = numbers ≡ []

abbrev pub AreOf : (why : Option ListError) → List Only → Counts → Report → List Number → Type 0
AreOf why only counts report numbers =
    AreOfShown why (is_chosen only report) (shows_items only) counts report numbers

-- The numbers are those of these events, in order, after earlier ones.
abbrev pub AreOfEvents : (why : Option ListError) → List Only → Counts → List Event → List Number → Type 0
AreOfEvents why only counts [] numbers = numbers ≡ []
AreOfEvents why only counts (e ∷ events) numbers = (one : List Number) × (later : List Number)
    × AreOf why only counts e.report one
    × (numbers ≡ one ++ later) × AreOfEvents why only (after counts e.report) events later

-- why the writing had stopped when a dump ended so, if it had; where the source failed it had not
abbrev pub stopped_by : Result Ended ListError → Option ListError
stopped_by (Ok how) = None
stopped_by (Err Input) = None
stopped_by (Err Output) = Some Output
stopped_by (Err Memory) = Some Memory

-- A text in this style was written: lines with this outline that show these numbers and bytes, or objects.
pub record WritesWhole (style : Style) (taken written : Option (List ℕ)) (outline : List ℕ) (numbers : List Number)
    (bytes : List ℕ) : Type 0 where
  pub text : List ℕ
  pub shaped : IsShaped style text outline numbers bytes
  pub wrote : Appends taken written text

-- A prefix of one was written.
pub record WritesSome (style : Style) (taken written : Option (List ℕ)) (outline : List ℕ) (numbers : List Number)
    (bytes : List ℕ) : Type 0 where
  pub text : List ℕ
  pub unwritten : List ℕ
  pub shaped : IsShaped style (text ++ unwritten) outline numbers bytes
  pub wrote : Appends taken written text

-- what was written of such a text, by how the dump ended
abbrev pub Writes : Style → Result Ended ListError → (taken written : Option (List ℕ)) (outline : List ℕ)
    (numbers : List Number) (bytes : List ℕ) → Type 0
Writes style (Ok how) taken written outline numbers bytes = WritesWhole style taken written outline numbers bytes
Writes style (Err Input) taken written outline numbers bytes = WritesWhole style taken written outline numbers bytes
Writes style (Err Output) taken written outline numbers bytes = WritesSome style taken written outline numbers bytes
Writes style (Err Memory) taken written outline numbers bytes = WritesSome style taken written outline numbers bytes

-- the bytes that an event consumed, if it is shown
abbrev pub bytes_of_event : List Only → Event → List ℕ
bytes_of_event only e = if is_chosen only e.report then e.consumed else []

-- | the bytes that are shown
-- those of events, if bytes are shown
abbrev pub bytes_of_events : (has_bytes : Bool) → List Only → List Event → List ℕ
bytes_of_events true only events = flat_map (λ e. bytes_of_event only e) events
bytes_of_events false only events = []

-- whether a dump ended at the stream's end
abbrev pub is_whole : Result Ended ListError → Bool
is_whole (Ok End) = true
is_whole other = false

-- What the source returned is read as events that begin with these, which consumed all of it but the remaining bytes:
-- none, if that was the whole stream. The numbers are theirs: each is how many items precede it in its index space, and
-- none is missing up to a section's first fault, unless the writing had stopped. The bytes are those that they
-- consumed, if these are shown.
pub record AreOfSource (why : Option ListError) (whole : Bool) (only : List Only) (has_bytes : Bool) (input : Change)
    (numbers : List Number) (bytes : List ℕ) : Type 0 where
  pub given : List ℕ
  pub events : List Event
  pub gave : Consumes input.before input.after given
  pub left : List ℕ
  pub consumed : given ≡ consumed_by events ++ left
  pub none_left : whole ≡ true → left ≡ []
  pub begins : ReadingBegins 0 all_features given events
  pub are_of : AreOfEvents why only no_counts events numbers
  pub are_bytes : bytes ≡ bytes_of_events has_bytes only events

-- | what a dump has written: a text whose outline is a listing by the lines that are shown [`Writes`]
-- The lines of the first level are those of the source's listing that are shown, with offsets in the base of the style;
-- all others begin with two blanks. The numbers of items count preceding ones, and rows of bytes show those of the
-- events that are shown, each once and in order. In the style of objects each line is one object, and the dump ends as
-- it does in lines.
pub record Dumps (style : Style) (only : List Only) (has_bytes : Bool) (input output : Change)
    (result : Result Ended ListError) : Type 0 where
  pub outline : List ℕ
  pub numbers : List Number
  pub bytes : List ℕ
  pub lists : ListsBy (chosen_line style only) input (from_to (Some []) (Some outline)) result
  pub counts : AreOfSource (stopped_by result) (is_whole result) only has_bytes input numbers bytes
  pub writes : Writes style result output.before output.after outline numbers bytes

-- ---- the parts of a dump

-- The items of what is reported were shown, with their numbers after earlier ones.
abbrev pub ShowsItems : Counts → Report → (old new : Writing) → Type 0
ShowsItems counts report old new = AddsNumbers (AreOfItems new.why counts report) old new

-- The same, if items are shown.
abbrev pub ShowsItemsIf : (has_items : Bool) → Counts → Report → (old new : Writing) → Type 0
ShowsItemsIf has_items counts report old new = AddsNumbers (AreOfItemsIf new.why has_items counts report) old new

-- These lines of the first level were written, if any, with offsets in the base of the style, and what is under them,
-- with numbers of which this holds, and these bytes are shown with them.
abbrev pub ShowsLine : (line : Style → List ℕ) (allowed : List Number → Type 0) (bytes : List ℕ) (old new : Writing)
    → Type 0
ShowsLine line allowed bytes old new = (o : Origin) → IsWritten o old → (shown : List Number) × allowed shown
    × IsWritten (with_bytes (with_numbers (with_line o (line o.style)) shown) bytes) new

-- the bytes that are shown with what is reported of them
abbrev pub shown_bytes : (has_bytes : Bool) → List Only → Report → List ℕ → List ℕ
shown_bytes true only report bytes = if is_chosen only report then bytes else []
shown_bytes false only report bytes = []

-- What is reported of these bytes was shown, if it was chosen.
abbrev pub ShowsReport : List Only → (has_bytes : Bool) → Counts → Report → List ℕ → (old new : Writing) → Type 0
ShowsReport only has_bytes counts report bytes old new = ShowsLine (λ style. chosen_line style only report)
    (AreOf new.why only counts report) (shown_bytes has_bytes only report bytes) old new

-- the numbers that are shown of a result, and the counts after it
abbrev pub AreOfAnswer : (why : Option ListError) → List Only → Counts → Told → List Number → Type 0
AreOfAnswer why only counts (Request hint) shown = shown ≡ []
AreOfAnswer why only counts (Part report bytes) shown = AreOf why only counts report shown
AreOfAnswer why only counts (Stop e) shown = shown ≡ []

abbrev pub after_answer : Counts → Told → Counts
after_answer counts (Request hint) = counts
after_answer counts (Part report bytes) = after counts report
after_answer counts (Stop e) = counts

-- the bytes that are shown with a result
abbrev pub bytes_of_answer : (has_bytes : Bool) → List Only → Told → List ℕ
bytes_of_answer has_bytes only (Request hint) = []
bytes_of_answer has_bytes only (Part report bytes) =
    shown_bytes has_bytes only report bytes
bytes_of_answer has_bytes only (Stop e) = []

-- A result was shown, if it was chosen.
abbrev pub ShowsAnswer : List Only → (has_bytes : Bool) → Counts → Told → (old new : Writing) → Type 0
ShowsAnswer only has_bytes counts answer old new = ShowsLine (λ style. text_after (chosen_line style only) answer)
    (AreOfAnswer new.why only counts answer) (bytes_of_answer has_bytes only answer) old new

-- a dump's origin: what the sink had taken, and whether it had failed
abbrev pub origin : Style → (taken : Option (List ℕ)) (failed : Bool) (outline : List ℕ) (numbers : List Number)
    (bytes : List ℕ) → Origin
origin style taken failed outline numbers bytes =
    record { taken = taken; has_failed = failed; style = style; outline = outline; numbers = numbers; bytes = bytes }

-- A dump by a writer over a sink that had taken this.
pub record DumpsFrom (style : Style) (only : List Only) (has_bytes : Bool) (input : Device)
    (taken : Option (List ℕ)) (failed : Bool) (result : Result Ended ListError) (new : Writing) : Type 0 where
  pub dumps : Dumps style only has_bytes (bytes_of input) (from_to taken new.taken) result
  pub source : input.has_failed ≡ input_failed result input.had_failed
  pub sink : new.has_failed ≡ output_failed result failed

-- Like `Dumps`, by a writer whose outline is empty.
abbrev pub DumpsInto : (only : List Only) (has_bytes : Bool) (input : Device) (old : Writing)
    (result : Result Ended ListError)
    (new : Writing) → Type 0
DumpsInto only has_bytes input old result new = (taken : Option (List ℕ)) (failed : Bool)
    → IsWritten (origin old.style taken failed [] [] []) old
    → DumpsFrom old.style only has_bytes input taken failed result new

-- Like `Dumps`, by a tree that has written nothing yet.
abbrev pub DumpsByTree : (only : List Only) (has_bytes : Bool) (input : Device) (old : Writing)
    (result : Result Ended ListError)
    (new : Writing) → Type 0
DumpsByTree only has_bytes input old result new = (style : Style) (taken : Option (List ℕ)) (failed : Bool)
    → old ≡ starts_in style taken failed → DumpsFrom style only has_bytes input taken failed result new
