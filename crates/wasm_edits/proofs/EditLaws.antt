-- What is written of the events of an accepted stream is the edited stream.
use Rattle.wasm_edits.proofs.Common.{◌≡◌, ℕ, ◌+◌, inl, inr, Bool, true, false, List, [], ◌∷◌, ◌++◌, length, refl, sym, arith, ap, ◌∙◌, ◌≤◌}
use Rattle.wasm_edits.proofs.Common.{take, drop, Ok, Err, Result, Error, Some, Feed}
use Rattle.wasm_edits.proofs.Common.{append-nil, append_assoc, All-tail, All, flat_map, SectionFrame, frame_bytes, IsFrame, consumed_by}
use Rattle.wasm_edits.proofs.Common.{all_features, Event, Encoding, last_event, ReadsEdited, IsStripped, stays_by, subst}
use Rattle.std.proofs.lemmas.Grind.{flat_map-append}
use Rattle.std.proofs.lemmas.List.Elements.{All-head, All-cons, All-nil}
use Rattle.wasm_edits.proofs.EditedSections.{accepted_with, sections_edited, sections_of}
use Rattle.wasm_edits.proofs.OnePass.{appended, bytes_of_appended, bytes_of_left, made_by, named_made, other_made, section_by_section}
use Rattle.wasm_edits.proofs.SectionEvents.{NoneCustom, OtherOrCustom, events_here, is_custom}
use Rattle.wasm_edits.proofs.StripLaws.{accepted_of, is_stripped, not_accepted, push_same}
use Rattle.std.proofs.Math.ListN.{drop_of_length-le}
use Rattle.std.proofs.lemmas.List.{take-append-drop}
use Rattle.wasm_edits.specs.EditParts.{HasRoom, MovesKept, EditedPartComes, WritesEdited}
use Rattle.wasm_edits.specs.Edited.{EditingComposes, EditsStream, IsEdited, StrippingIsAnEdit, edited}
use Rattle.wasm_edits.specs.Edits.{CanBeMade, after_edit, after_edits, bytes_as, edited_bytes, fate_by, new_bytes, report_fate}
use Rattle.wasm_edits.specs.declared.edits.Edit.{Edit}
use Rattle.wasm_edits.specs.declared.edits.Edit.TheVariants as edit
use Rattle.wasm_edits.specs.declared.fates.Keep.{Keep}
use Rattle.wasm_edits.specs.declared.edits.Fate.TheVariants.{Becomes, Goes, Stays}
use Rattle.wasm_edits.specs.declared.editing.Part.{Part}
use Rattle.wasm_edits.specs.declared.encoding.NewSection.{NewSection}
use Rattle.wasm_edits.specs.Stripped.{Strips, StripsToFront}
use Rattle.std.proofs.Common.{cond, Vec}
use Rattle.wasm_grammar.specs.Accepted.{header_bytes, IsAccepted}
use Rattle.wasm_grammar.specs.Content.{ended}
use Rattle.wasm_grammar.specs.FrameEvents.{FramesEvents, header_event, TellsFrames}
use Rattle.wasm_frames.proofs.ForCallers.{accepted_reads, frames_give_events, one_division}
use Rattle.wasm_grammar.specs.Reading.{Report, Stream, custom_section, events_of}

-- ---- what is written of events

pub edited_more : (edits : List Edit) (xs ys : List Event) → edited_bytes edits (xs ++ ys) ≡ edited_bytes edits xs ++ edited_bytes edits ys
edited_more edits xs ys = flat_map-append (λ e. bytes_as (report_fate edits e.report) e.consumed) xs ys

pub other_report : (edits : List Edit) (r : Report) → is_custom r ≡ false → report_fate edits r ≡ Stays
other_report edits (custom_section text data_offset window) e = cc
other_report edits _ e = refl

none_changed : (edits : List Edit) (events : List Event) → NoneCustom events → edited_bytes edits events ≡ consumed_by events
none_changed edits [] n = refl
none_changed edits (e ∷ events) n =
    ap (λ (xs : List ℕ). bytes_as (report_fate edits e.report) e.consumed ++ xs) (none_changed edits events n.1)
    ∙ rw (other_report edits e.report n.0) refl

-- what is written of the events of a section are the bytes of what edits make of it
section_written : (edits : List Edit) (f : SectionFrame) (events : List Event) → All CanBeMade edits → OtherOrCustom f events
    → edited_bytes edits events ≡ flat_map frame_bytes (made_by edits f)
section_written edits f events fits (inl o) =
    none_changed edits events o.none
    ∙ (o.whole ∙ sym (ap (flat_map frame_bytes) (other_made edits f o.other) ∙ append-nil (frame_bytes f)))
section_written edits f events fits (inr c) =
    ap (edited_bytes edits) c.alone
    ∙ (append-nil (bytes_as (report_fate edits c.event.report) c.event.consumed)
    ∙ (ap (λ (r : Report). bytes_as (report_fate edits r) c.event.consumed) c.reports
    ∙ (ap (bytes_as (fate_by edits c.text)) c.whole
    ∙ sym (ap (flat_map frame_bytes) (named_made edits c.text f fits c.named) ∙ bytes_of_left (fate_by edits c.text) f))))

sections_written : (edits : List Edit) (features : ℕ) (encoding : Encoding) (at : ℕ) (frames : List SectionFrame) (events : List Event)
    → All CanBeMade edits → All (IsFrame encoding) frames → FramesEvents features encoding at frames events
    → edited_bytes edits events ≡ flat_map frame_bytes (flat_map (made_by edits) frames)
sections_written edits features encoding at [] events fits each e = ap (edited_bytes edits) e
sections_written edits features encoding at (f ∷ frames) events fits each (first, more, whole, here, rest) =
    let rest' : edited_bytes edits more ≡ flat_map frame_bytes (flat_map (made_by edits) frames) =
    sections_written edits features encoding (at + length (frame_bytes f)) frames more fits (All-tail (IsFrame encoding) f frames each)
    rest in
    let first' : edited_bytes edits first ≡ flat_map frame_bytes (made_by edits f) =
    section_written edits f first fits (events_here features at encoding f first (All-head (IsFrame encoding) f frames each) here) in
    ap (edited_bytes edits) whole
    ∙ (edited_more edits first more
    ∙ (ap (λ (xs : List ℕ). xs ++ edited_bytes edits more) first'
    ∙ (ap (λ (xs : List ℕ). flat_map frame_bytes (made_by edits f) ++ xs) rest'
    ∙ sym (flat_map-append frame_bytes (made_by edits f) (flat_map (made_by edits) frames)))))

-- ---- a whole stream

-- the bytes of the sections after edits
bytes_after : (edits : List Edit) (frames : List SectionFrame) → All CanBeMade edits
    → flat_map frame_bytes (flat_map (made_by edits) frames) ++ new_bytes edits ≡ flat_map frame_bytes (after_edits edits frames)
bytes_after edits frames fits =
    ap (λ (xs : List ℕ). flat_map frame_bytes (flat_map (made_by edits) frames) ++ xs) (sym (bytes_of_appended edits fits))
    ∙ (sym (flat_map-append frame_bytes (flat_map (made_by edits) frames) (appended edits))
    ∙ ap (flat_map frame_bytes) (sym (section_by_section edits frames)))

written_is : (edits : List Edit) (stream bytes : List ℕ) (a : IsAccepted stream) → All CanBeMade edits → Stream stream 0
    → ReadsEdited edits stream bytes → bytes ++ new_bytes edits ≡ edited edits a.encoding a.frames
written_is edits stream bytes a fits s r =
    let all : List Event = r.events ++ last_event (ended r.offset) ∷ [] in
    let t : TellsFrames 0 all_features a.encoding a.frames all = (frames_give_events stream 0 all_features all s a).0 r.reading in
    let end : ℕ = 0 + length (header_bytes a.encoding ++ flat_map frame_bytes a.frames) in
    let here : r.events ≡ header_event 0 a.encoding ∷ t.inner =
    (push_same r.events (header_event 0 a.encoding ∷ t.inner) (last_event (ended r.offset)) (last_event (ended end)) t.whole).0 in
    let middle : List ℕ = flat_map frame_bytes (flat_map (made_by edits) a.frames) in
    let inner : edited_bytes edits t.inner ≡ middle =
    sections_written edits all_features a.encoding (0 + length (header_bytes a.encoding)) a.frames t.inner fits a.each t.sections in
    let written : bytes ≡ header_bytes a.encoding ++ middle =
    r.written ∙ (ap (edited_bytes edits) here ∙ ap (λ (xs : List ℕ). header_bytes a.encoding ++ xs) inner) in
    ap (λ (xs : List ℕ). xs ++ new_bytes edits) written
    ∙ (append_assoc (header_bytes a.encoding) middle (new_bytes edits)
    ∙ ap (λ (xs : List ℕ). header_bytes a.encoding ++ xs) (bytes_after edits a.frames fits))

-- the edited bytes of an accepted stream are accepted
pub is_edited : (edits : List Edit) (stream result : List ℕ) (a : IsAccepted stream) → All CanBeMade edits
    → result ≡ edited edits a.encoding a.frames → IsEdited edits stream result
is_edited edits stream result a fits e =
    let s = sections_edited edits a.encoding a.frames fits (sections_of stream a) in
    let (b, f, g) = accepted_with result a.encoding (after_edits edits a.frames) e s in
    record { accepted = a; bytes = e; still = b; encoding = f; frames = g }

-- a stream that is read up to its end is edited
pub edits_so : (edits : List Edit) (stream bytes : List ℕ) → All CanBeMade edits → Stream stream 0 → ReadsEdited edits stream bytes
    → IsEdited edits stream (bytes ++ new_bytes edits)
edits_so edits stream bytes fits s r =
    let a : IsAccepted stream = accepted_of stream r.events r.offset s r.reading in
    is_edited edits stream (bytes ++ new_bytes edits) a fits (written_is edits stream bytes a fits s r)

-- an accepted stream is read up to its end
reads_edited : (edits : List Edit) (stream : List ℕ) → Stream stream 0 → IsAccepted stream
    → (bytes : List ℕ) × ReadsEdited edits stream bytes
reads_edited edits stream s a =
    let (tiles, reads) = accepted_reads stream 0 s.fits a in
    let events : List Event = events_of 0 all_features tiles in (
      edited_bytes edits events,
      record {
        events = events;
        offset = 0 + length stream;
        reading = record { tiles = tiles; end = ended (0 + length stream); reads = reads; listed = refl };
        written = refl;
      },
    )

-- there is room for an edited stream in as many bytes
pub room_for : (edits : List Edit) (stream result out : List ℕ) → All CanBeMade edits → Stream stream 0 → IsEdited edits stream result
    → length result ≤ length out → HasRoom edits stream out
room_for edits stream result out fits s i l =
    let (bytes, reads) = reads_edited edits stream s i.accepted in
    let same : bytes ++ new_bytes edits ≡ result = written_is edits stream bytes i.accepted fits s reads ∙ sym i.bytes in
    (bytes, reads, subst (λ (xs : List ℕ). length xs ≤ length out) (sym same) l)

-- an edited stream is what is written
pub edited_is : (edits : List Edit) (stream result bytes : List ℕ) → All CanBeMade edits → Stream stream 0 → IsEdited edits stream result
    → ReadsEdited edits stream bytes → bytes ++ new_bytes edits ≡ result
edited_is edits stream result bytes fits s i reads = written_is edits stream bytes i.accepted fits s reads ∙ sym i.bytes

-- it was written to the front
pub front_is : (edits : List Edit) (stream result old new : List ℕ) (size : ℕ) → All CanBeMade edits → Stream stream 0
    → IsEdited edits stream result → WritesEdited edits stream old (Ok size) new → new ≡ result ++ drop (length result) old
front_is edits stream result old new size fits s i (bytes, reads, n, written, rest) =
    let e : bytes ++ new_bytes edits ≡ result = edited_is edits stream result bytes fits s i reads in
    let k : size ≡ length result = n ∙ ap (λ (xs : List ℕ). length xs) e in
    let front : take size new ≡ result = written ∙ e in
    sym (take-append-drop size new) ∙ (ap (λ (xs : List ℕ). xs ++ drop size new) front
    ∙ (ap (λ (xs : List ℕ). result ++ xs) rest ∙ ap (λ (m : ℕ). result ++ drop m old) k))

-- in all bytes
pub all_is : (edits : List Edit) (stream result old new : List ℕ) (size : ℕ) → All CanBeMade edits → Stream stream 0
    → IsEdited edits stream result → WritesEdited edits stream old (Ok size) new → length old ≡ length result → new ≡ result
all_is edits stream result old new size fits s i w l =
    front_is edits stream result old new size fits s i w
    ∙ (ap (λ (xs : List ℕ). result ++ xs) (drop_of_length-le old (omega (arith, l))) ∙ append-nil result)

-- ---- laws

after_more : (first second : List Edit) (frames : List SectionFrame) → after_edits (first ++ second) frames
    ≡ after_edits second (after_edits first frames)
after_more [] second frames = refl
after_more (edit ∷ first) second frames = after_more first second (after_edit edit frames)

pub composes : EditingComposes
composes first second stream once twice i j =
    let a : IsAccepted stream = i.accepted in
    let same : ((j.accepted.encoding ≡ i.still.encoding) × (j.accepted.frames ≡ i.still.frames)) = one_division once j.accepted i.still in
    let encoding : j.accepted.encoding ≡ a.encoding = same.0 ∙ i.encoding in
    let frames : after_edits second j.accepted.frames ≡ after_edits (first ++ second) a.frames =
    ap (after_edits second) (same.1 ∙ i.frames) ∙ sym (after_more first second a.frames) in
    record {
      accepted = a;
      bytes = j.bytes ∙ (ap (λ (e : Encoding). header_bytes e ++ flat_map frame_bytes (after_edits second j.accepted.frames)) encoding
          ∙ ap (λ (fs : List SectionFrame). header_bytes a.encoding ++ flat_map frame_bytes fs) frames);
      still = j.still;
      encoding = j.encoding ∙ encoding;
      frames = j.frames ∙ frames;
    }

keep_fits : (keep : Keep) → All CanBeMade (edit.Keep keep ∷ [])
keep_fits keep = All-cons CanBeMade (edit.Keep keep) [] tt (All-nil CanBeMade)

-- what is stripped is edited
pub strips_as_edit : (keep : Keep) (stream kept : List ℕ) → IsStripped (stays_by keep) stream kept
    → IsEdited (edit.Keep keep ∷ []) stream kept
strips_as_edit keep stream kept s =
    is_edited (edit.Keep keep ∷ []) stream kept s.accepted (keep_fits keep) s.bytes

-- what is edited so is stripped
pub edit_strips : (keep : Keep) (stream kept : List ℕ) → Stream stream 0 → IsEdited (edit.Keep keep ∷ []) stream kept
    → IsStripped (stays_by keep) stream kept
edit_strips keep stream kept s i =
    subst (IsStripped (stays_by keep) stream) (sym i.bytes) (is_stripped (stays_by keep) stream i.accepted s)

pub stripping_is : StrippingIsAnEdit
stripping_is keep stream kept s = (strips_as_edit keep stream kept, edit_strips keep stream kept s)

-- ---- stripping by editing

-- a stream that is read up to its end is stripped
strips_so : (keep : Keep) (stream kept : List ℕ) → Stream stream 0 → ReadsEdited (edit.Keep keep ∷ []) stream kept
    → IsStripped (stays_by keep) stream kept
strips_so keep stream kept s r =
    edit_strips keep stream kept s
    (subst (IsEdited (edit.Keep keep ∷ []) stream) (append-nil kept) (edits_so (edit.Keep keep ∷ []) stream kept (keep_fits keep) s r))

-- the kept bytes were moved to the front, which cannot end with a fault if the stream is accepted
pub strips_to_front : (keep : Keep) (stream after : List ℕ) (r : Result ℕ Error) → Stream stream 0 → IsAccepted stream
    → MovesKept (edit.Keep keep ∷ []) stream r after → StripsToFront (stays_by keep) stream r after
strips_to_front keep stream after (Ok size) s a m = (strips_so keep stream (take size after) s m.0, m.1, m.2)
strips_to_front keep stream after (Err e) s a m = absurd (not_accepted stream e s m a)

pub strips_by_edit : {A : Type 0} (keep : Keep) (stream : List ℕ) (r : Result (Vec ℕ A) Error) → Stream stream 0
    → EditsStream (edit.Keep keep ∷ []) stream r → Strips (stays_by keep) stream r
strips_by_edit keep stream (Ok kept) s e = edit_strips keep stream kept.items s e
strips_by_edit keep stream (Err e) s r = r

-- what only keeps or removes makes nothing new
kept_or_gone : (s : NewSection) (b : Bool) → cond b Stays Goes ≡ Becomes s → ⊥
kept_or_gone s true e = cc
kept_or_gone s false e = cc

never_new : (keep : Keep) (s : NewSection) (r : Report) → report_fate (edit.Keep keep ∷ []) r ≡ Becomes s → ⊥
never_new keep s (custom_section text data_offset window) e = kept_or_gone s (stays_by keep text) e
never_new keep s _ e = cc

pub nothing_new : (keep : Keep) (stream : List ℕ) (events : List Event) (part : Part) (s : NewSection) (new : Feed)
    → EditedPartComes (edit.Keep keep ∷ []) stream events (Ok (Some part)) new → part.fate ≡ Becomes s → ⊥
nothing_new keep stream events part s new (e, c, is, a) b = never_new keep s e.report (sym is ∙ b)
