-- Editing a stream while it is read.
use Rattle.std.specs.Prelude.{◌≡◌, ◌⊎◌, ℕ, ◌+◌, ◌<◌, ◌≤◌, ◌^◌, Bool, true, List, [], ◌∷◌, ◌++◌, length, IfErr, IfOk}
use Rattle.std.specs.Prelude.{Option, Some, None, Result, Ok, Err, if◌then◌else◌}
use Rattle.std.specs.Io.KnownBytes.{Consumes, Appends}
use Rattle.wasm_base.specs.Features.{all_features}
use Rattle.wasm_base.specs.declared.error.Error.{Error}
use Rattle.wasm_edits.specs.Edited.{IsEdited}
use Rattle.wasm_edits.specs.Edits.{CanBeWritten, bytes_as, edited_bytes, head_fate, new_bytes, report_fate, stays_in}
use Rattle.wasm_edits.specs.declared.edits.Fate.{Fate}
use Rattle.wasm_edits.specs.declared.edits.Fate.TheVariants.{Goes}
use Rattle.wasm_edits.specs.declared.edits.Edit.{Edit}
use Rattle.wasm_edits.specs.declared.streaming.Passed.{Passed}
use Rattle.wasm_edits.specs.declared.streaming.Passed.TheVariants.{Cut, Part}
use Rattle.wasm_edits.specs.declared.streaming.Skipped.{Skipped}
use Rattle.wasm_streams.specs.Beside.{seen, lending, FillsAlike}
use Rattle.wasm_edits.specs.Fates.{head_stays}
use Rattle.wasm_streams.specs.Feed.{Feed}
use Rattle.wasm_streams.specs.Lists.{IsEndedBy, IsWhole, PassesTop}
use Rattle.wasm_streams.specs.Passing.{GivesUp, PassesPart, SkipsHere, SkipsNothing, held_by}
use Rattle.wasm_streams.specs.declared.cursor.Cursor.{Cursor}
use Rattle.wasm_streams.specs.Writers.{RunEnds, Writer}
use Rattle.wasm_streams.specs.Step as tells
use Rattle.wasm_streams.specs.Step.{Told}
use Rattle.wasm_streams.specs.declared.turns.Ended.{Ended}
use Rattle.wasm_streams.specs.declared.turns.Ended.TheVariants.{End}
use Rattle.wasm_frames.specs.Answer.{is_end}
use Rattle.wasm_frames.specs.ParserState.{ParserState}
use Rattle.wasm_frames.specs.SkipNext.{Skip, SkipsPart}
use Rattle.wasm_grammar.specs.Content.{Ending}
use Rattle.wasm_grammar.specs.EventRanges.{consumed_by}
use Rattle.wasm_grammar.specs.Reading.{Event, last_event, Stream}
use Rattle.wasm_frames.specs.Along.{Along, ReadingBegins}
use Rattle.wasm_io.specs.Calls.{Change, Device, output_failed}
use Rattle.wasm_io.specs.Page.{IsCut, PutsBytes, WritesHead}
use Rattle.wasm_io.specs.declared.devices.ListError.{ListError}

-- ---- bytes that are forwarded

-- the bytes that are written of a result
abbrev pub piece_after : List Edit → Told → List ℕ
piece_after edits (tells.Request hint) = []
piece_after edits (tells.Part report bytes) =
    if is_end report then [] else bytes_as (report_fate edits report) bytes
piece_after edits (tells.Stop e) = []

-- They were put after those that waited.
abbrev pub TakesPiece : List Edit → (taken written : Option (List ℕ)) (waiting new : List ℕ)
    → Told → Result (Unit {0}) ListError → Type 0
TakesPiece edits taken written waiting new answer (Ok done) =
    PutsBytes taken written waiting (piece_after edits answer) new
TakesPiece edits taken written waiting new answer (Err e) = IsCut taken written (waiting ++ piece_after edits answer) e

-- ---- a part that is skipped

-- The parser skipped a part that becomes this.
pub record SkipsAs (edits : List Edit) (old : Cursor) (bytes : List ℕ) (skipped : Skipped) (new : Cursor) : Type 0 where
  pub here : SkipsHere (head_stays (stays_in edits)) old bytes skipped.passing new
  pub fate : skipped.fate ≡ head_fate edits here.skip.head

abbrev pub SkipsEdited : List Edit → Cursor → (bytes : List ℕ) → Option Skipped → Cursor → Type 0
SkipsEdited edits old bytes (Some skipped) new = SkipsAs edits old bytes skipped new
SkipsEdited edits old bytes None new = SkipsNothing old bytes × (new ≡ old)

-- What replaces the part can be written.
abbrev pub CanBeSkipped : Option Skipped → Type 0
CanBeSkipped None = Unit {0}
CanBeSkipped (Some skipped) = CanBeWritten skipped.fate

abbrev pub CanBePassed : Passed → Type 0
CanBePassed (Cut e) = Unit {0}
CanBePassed (Part fate) = CanBeWritten fate

-- ---- a whole stream

-- What was done with a request: the next bytes were read, or a part was skipped, of which these were the first bytes.
pub record PassesHere (edits : List Edit) (source rest taken written : Option (List ℕ)) (old : Cursor)
    (stored chunk waiting : List ℕ) (fault : Option Error) (fate : Fate) (new : Feed) (page : List ℕ) : Type 0 where
  pub part : Skipped
  pub skipped : Cursor
  pub skips : SkipsAs edits old (seen stored chunk) part skipped
  pub left : List ℕ
  pub passes : PassesPart source rest taken written part.passing skipped stored chunk waiting fault left page
  pub so : fate ≡ part.fate
  pub state : new.state ≡ skipped.parser
  pub held : new.held ≡ left
  pub eof : new.eof ≡ skipped.is_finished

abbrev pub ReadsMore : (source rest taken written : Option (List ℕ)) (old : Feed) (waiting : List ℕ)
    (new : Feed) (page : List ℕ) → Type 0
ReadsMore source rest taken written old waiting new page =
    FillsAlike source rest old new × (written ≡ taken) × (page ≡ waiting)

-- More was read; or the first bytes of a part, or all, were passed on or dropped.
abbrev pub ReadsOrPasses : List Edit → (source rest taken written : Option (List ℕ)) (old : Cursor)
    (stored chunk waiting : List ℕ) → Passed → (new : Feed) (page : List ℕ) → Type 0
ReadsOrPasses edits source rest taken written old stored chunk waiting (Part fate) new page =
    (ReadsMore source rest taken written (lending stored chunk old) waiting new page
    × SkipsNothing old (seen stored chunk) × (fate ≡ Goes))
    ⊎ PassesHere edits source rest taken written old stored chunk waiting None fate new page
ReadsOrPasses edits source rest taken written old stored chunk waiting (Cut e) new page =
    (fate : Fate) × PassesHere edits source rest taken written old stored chunk waiting (Some e) fate new page

-- A part that was skipped could not be passed.
pub record PassesNot (edits : List Edit) (source rest taken written : Option (List ℕ)) (old : Cursor)
    (stored chunk waiting : List ℕ) (e : ListError) : Type 0 where
  pub part : Skipped
  pub skipped : Cursor
  pub skips : SkipsAs edits old (seen stored chunk) part skipped
  pub left : List ℕ
  pub page : List ℕ
  pub up : GivesUp source rest taken written part.passing.stays part.passing.size (held_by skipped stored chunk)
      waiting e left page

-- A read failed, perhaps after the source gave some bytes. Goes was written.
abbrev pub ReadsNot : (source rest taken written : Option (List ℕ)) → Type 0
ReadsNot source rest taken written = (given : List ℕ) × Consumes source rest given × (written ≡ taken)

-- what was done with a request that could not be met
abbrev pub StopsHere : List Edit → (source rest taken written : Option (List ℕ)) (old : Cursor)
    (stored chunk waiting : List ℕ) → ListError → Type 0
StopsHere edits source rest taken written old stored chunk waiting e =
    ReadsNot source rest taken written × SkipsNothing old (seen stored chunk)
    ⊎ PassesNot edits source rest taken written old stored chunk waiting e

-- The part that comes after these events stays, by its first fields, and these are at most its bytes.
pub record NextStays (edits : List Edit) (given : List ℕ) (first : List Event) (partial : List ℕ) : Type 0 where
  pub state : ParserState
  pub held : List ℕ
  pub seen : List ℕ
  pub later : List ℕ
  pub along : Along 0 all_features given state held first
  pub parts : held ≡ seen ++ later
  pub skip : Skip
  pub next : ParserState
  pub skips : SkipsPart state seen skip next
  pub stays : head_stays (stays_in edits) skip.head ≡ true
  pub within : state.offset + length partial ≤ skip.to

-- what may have been written of the next part
abbrev pub IsPartial : List Edit → (given : List ℕ) (first : List Event) (partial : List ℕ) → Type 0
IsPartial edits given first partial = (partial ≡ []) ⊎ NextStays edits given first partial

-- A call was given up. What was written is a prefix of the bytes of these events that stay, and of the first bytes of
-- the next part, if it stays.
pub record EditsHead (edits : List Edit) (input output : Change) : Type 0 where
  pub given : List ℕ
  pub first : List Event
  pub partial : List ℕ
  pub unread : List ℕ
  pub gave : Consumes input.before input.after given
  pub begins : ReadingBegins 0 all_features given first
  pub parts : given ≡ consumed_by first ++ (partial ++ unread)
  pub stays : IsPartial edits given first partial
  pub wrote : WritesHead output.before output.after (edited_bytes edits first ++ partial)

-- What was read and written of a stream that ended so. A fault may come after the first bytes of a part, which were
-- written if it stays.
pub record IsStreamed (edits : List Edit) (input output : Change) (how : Ended) : Type 0 where
  pub given : List ℕ
  pub first : List Event
  pub end : Ending
  pub partial : List ℕ
  pub unread : List ℕ
  pub gave : Consumes input.before input.after given
  pub parts : given ≡ consumed_by first ++ (partial ++ unread)
  pub stays : IsPartial edits given first partial
  pub wrote : Appends output.before output.after (edited_bytes edits first ++ partial)
  pub ends : IsEndedBy how end
  pub within : length given < 2 ^ 64 → IsWhole input.before given (first ++ last_event end ∷ [])
  pub past_the_top : 2 ^ 64 ≤ length given → PassesTop given first end
  pub is_edited : how ≡ End → Stream given 0
      → IsEdited edits given ((edited_bytes edits first ++ partial) ++ new_bytes edits)

abbrev pub EditsPartsBy : List Edit → (input output : Change) → Result Ended ListError → Type 0
EditsPartsBy edits input output (Ok how) = IsStreamed edits input output how
EditsPartsBy edits input output (Err e) = EditsHead edits input output

-- what a call that edits a source does before it writes new sections at the end, and whether each device has failed
abbrev pub EditsParts : List Edit → (input output : Device) → Result Ended ListError → Type 0
EditsParts edits input output how = RunEnds (λ i o result. EditsPartsBy edits i o result) input output how

-- a visitor that writes parts after these edits
abbrev pub editor : {V W : Type 0} → (edits : V → List Edit) (page : V → List ℕ) (taken : W → Option (List ℕ))
    (failed : W → Bool) → Writer V W (List Edit)
editor edits page taken failed = record {
  by = edits;
  page = page;
  taken = taken;
  failed = failed;
  text = λ by events. edited_bytes by events;
  ends = λ by input output how. EditsPartsBy by input output how;
}

-- The sections that edits append were written, or a prefix of them.
pub record WritesNew (edits : List Edit) (output : Device) (result : Result (Unit {0}) ListError) : Type 0 where
  pub writes : IfOk result (λ done. Appends output.before output.after (new_bytes edits))
  pub cut : IfErr result (λ e. IsCut output.before output.after (new_bytes edits) e)
  pub sink : output.has_failed ≡ output_failed result output.had_failed

-- how a stream without a fault ends, after the new sections were written or not
abbrev pub ended_by : Result (Unit {0}) ListError → Result Ended ListError
ended_by (Ok done) = Ok End
ended_by (Err e) = Err e

-- The parts of a source were edited, and if it has no fault, new sections were written after them.
abbrev pub EndsEdit : List Edit → (parts : Result Ended ListError) (output : Device) (how : Result Ended ListError)
    → Type 0
EndsEdit edits (Ok End) output how = (result : Result (Unit {0}) ListError) × WritesNew edits output result
    × (how ≡ ended_by result)
EndsEdit edits parts output how = (output.after ≡ output.before) × (output.has_failed ≡ output.had_failed)
    × (how ≡ parts)

-- | what a call that edits a source has read and written. It wrote the bytes of the events after the edits, and at the
--   end the sections that are appended. After a fault it may also have written first bytes of the part that the fault
--   cuts, if that part stays. If a device or an allocation failed, it wrote a prefix of such bytes [`EditsParts`,
--   `IsStreamed`, `EditsHead`, `NextStays`, `EndsEdit`]
-- what a call that edits a source does: to its parts, and then at their end
pub record EditsSource (edits : List Edit) (input output : Device) (how : Result Ended ListError) : Type 0 where
  pub middle : Option (List ℕ)
  pub failed : Bool
  pub parts : Result Ended ListError
  pub edited : EditsParts edits input (record output { after = middle; has_failed = failed }) parts
  pub ends : EndsEdit edits parts (record output { before = middle; had_failed = failed }) how
