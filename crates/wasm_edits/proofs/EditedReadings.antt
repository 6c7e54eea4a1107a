-- The reading of an edited stream is the edited reading.
use Rattle.wasm_edits.proofs.Common.{◌≡◌, ℕ, ◌+◌, inl, inr, List, [], ◌∷◌, ◌++◌, length, Some, refl, sym, subst, subst₂, arith, ap, ◌∙◌}
use Rattle.wasm_edits.proofs.Common.{length-append, append-nil, append_assoc, All-tail, All, flat_map, SectionFrame, frame_bytes}
use Rattle.wasm_edits.proofs.Common.{IsFrame, consumed_by, Event, Encoding, last_event}
use Rattle.std.proofs.Common.{cond, Bool, true, false, map}
use Rattle.std.specs.Str.{bytes_eq}
use Rattle.std.proofs.lemmas.List.{map-append}
use Rattle.std.proofs.lemmas.Grind.{flat_map-append}
use Rattle.std.proofs.lemmas.List.Elements.{All-append, All-head, All-cons, All-nil}
use Rattle.wasm_base.specs.Name.{Name, named, refused, name_limit, name}
use Rattle.wasm_edits.proofs.EditLaws.{other_report}
use Rattle.wasm_edits.proofs.Encodings.{names_back}
use Rattle.wasm_edits.proofs.OnePass.{appended, appended_by, frames_as, made_by, made_is_named, named_made, other_made}
use Rattle.wasm_edits.proofs.OnePass.{section_by_section}
use Rattle.wasm_edits.proofs.SectionEvents.{IsCustom, NoneCustom, OtherOrCustom, events_here}
use Rattle.wasm_edits.specs.EditedReading.{ComeFrom, EventOrigin, ReadingsAreEdited, added_before, content_at, event_at, new_event, new_in}
use Rattle.wasm_edits.specs.EditedReading.{new_section, new_sections, origins, origins_in}
use Rattle.wasm_edits.specs.Edits.{CanBeMade, CanBeWritten, added_by, after_edits, as_other, fate_by, fate_from, leaves, replaces}
use Rattle.wasm_edits.specs.Edits.{report_fate}
use Rattle.wasm_edits.specs.Encoded.{Fits, content_of, encoded_name, encoded_section, frame_of}
use Rattle.wasm_edits.specs.declared.edits.Edit.{Edit}
use Rattle.wasm_edits.specs.declared.edits.Edit.TheVariants.{Append, Keep, Remove, Replace}
use Rattle.wasm_edits.specs.declared.edits.Fate.{Fate}
use Rattle.wasm_edits.specs.declared.edits.Fate.TheVariants.{Becomes, Goes, Stays}
use Rattle.wasm_edits.specs.declared.encoding.NewSection.{NewSection}
use Rattle.wasm_grammar.specs.Accepted.{CodeDivision, IsAccepted, Sized, header_bytes, sized_bytes}
use Rattle.wasm_grammar.specs.Content.{Form, Kind, code, custom, data_count, ended, fault, index, items, kind_of, unknown, whole}
use Rattle.wasm_grammar.specs.FrameEvents.{FrameEvents, FramesEvents, KindEvents, TellsFrames, body_events, code_events, header_event}
use Rattle.wasm_grammar.specs.FrameEvents.{section_event}
use Rattle.wasm_grammar.specs.Reading.{Report, code_entry, code_start, counted, custom_report, custom_section}
use Rattle.wasm_grammar.specs.Reading.{data_count_section, start_section, stream_end, unknown_section, version}
use Rattle.wasm_grammar.specs.Shifted.{shifted_event, shifted_events, shifted_report}
use Rattle.wasm_grammar.specs.declared.encoding.Encoding.TheVariants.{Component, Module}
use Rattle.wasm_frames.proofs.ForCallers.{frames_give_events, frames_read_the_same, reading_same}

-- ---- the same event at two offsets

moved_report : (r : Report) (from to k : ℕ)
    → shifted_report (from + k) (shifted_report to r) ≡ shifted_report (to + k) (shifted_report from r)
moved_report (version num encoding low high) from to k = grind arith
moved_report (counted id count window) from to k = grind arith
moved_report (start_section func low high) from to k = grind arith
moved_report (data_count_section count low high) from to k = grind arith
moved_report (code_start count low high size) from to k = grind arith
moved_report (code_entry window) from to k = grind arith
moved_report (custom_section name data_offset window) from to k = grind arith
moved_report (unknown_section id contents low high) from to k = grind arith
moved_report (stream_end (fault f)) from to k = grind arith
moved_report (stream_end (ended offset)) from to k = grind arith

moved_event : (e : Event) (from to k : ℕ)
    → shifted_event (from + k) (shifted_event to e) ≡ shifted_event (to + k) (shifted_event from e)
moved_event e from to k = ap (λ (r : Report). record { report = r; consumed = e.consumed }) (moved_report e.report from to k)

-- ---- events that stay

-- Each of these events stays, and nothing comes before it.
abbrev pub StayHere : List Edit → List Event → Type 0
StayHere edits [] = Unit {0}
StayHere edits (e ∷ events) = (report_fate edits e.report ≡ Stays) × (added_before edits e.report ≡ []) × StayHere edits events

-- no section comes before any of these events
abbrev pub AddNothing : List Edit → List Event → Type 0
AddNothing edits [] = Unit {0}
AddNothing edits (e ∷ events) = (added_before edits e.report ≡ []) × AddNothing edits events

custom_adds : (edits : List Edit) (features low high : ℕ) (content : List ℕ) (n : Name)
    → added_before edits (custom_report features low high content n) ≡ []
custom_adds edits features low high content (named text used) = refl
custom_adds edits features low high content (refused f place) = refl

form_adds : (edits : List Edit) (features at : ℕ) (form : Form) (f : SectionFrame)
    → added_before edits (section_event features at form f).report ≡ []
form_adds edits features at items f = refl
form_adds edits features at index f = refl
form_adds edits features at data_count f = refl
form_adds edits features at custom f =
    custom_adds edits features (at + 1 + length f.sized.field) (at + length (frame_bytes f)) f.sized.content
    (name (Some name_limit) f.sized.content)
form_adds edits features at unknown f = refl

bodies_add : (edits : List Edit) (features at : ℕ) (bodies : List Sized) → AddNothing edits (body_events features at bodies)
bodies_add edits features at [] = tt
bodies_add edits features at (s ∷ bodies) = (refl, bodies_add edits features (at + length (sized_bytes s)) bodies)

code_adds : (edits : List Edit) (features at : ℕ) (f : SectionFrame) (d : CodeDivision f.sized.content)
    → AddNothing edits (code_events features at f d)
code_adds edits features at f d =
    (refl, bodies_add edits features (at + 1 + length f.sized.field + length d.field) d.bodies)

kind_adds : (edits : List Edit) (features at : ℕ) (k : Kind) (f : SectionFrame) (events : List Event) → KindEvents features at k f events
    → AddNothing edits events
kind_adds edits features at (whole form) f events e = subst (AddNothing edits) (sym e) (form_adds edits features at form f, tt)
kind_adds edits features at code f events (d, e) = subst (AddNothing edits) (sym e) (code_adds edits features at f d)

stay_of : (edits : List Edit) (events : List Event) → NoneCustom events → AddNothing edits events → StayHere edits events
stay_of edits [] n a = tt
stay_of edits (e ∷ events) n a = (other_report edits e.report n.0, a.0, stay_of edits events n.1 a.1)

consumed_moved : (by : ℕ) (events : List Event) → consumed_by (shifted_events by events) ≡ consumed_by events
consumed_moved by [] = refl
consumed_moved by (e ∷ events) = ap (λ (xs : List ℕ). e.consumed ++ xs) (consumed_moved by events)

-- events that stay come from themselves
stays_run : (edits : List Edit) (features from to k : ℕ) (base more others : List Event) → StayHere edits (shifted_events from base)
    → ComeFrom features (to + (k + length (consumed_by base))) (origins edits (from + (k + length (consumed_by base))) more) others
    → ComeFrom features (to + k) (origins edits (from + k) (shifted_events from base ++ more)) (shifted_events to base ++ others)
stays_run edits features from to k [] more others s h =
    subst (λ (n : ℕ). ComeFrom features (to + n) (origins edits (from + n) more) others) (omega arith) h
stays_run edits features from to k (b ∷ base) more others s h = grind (
  arith,
  length-append,
  moved_event,
  stays_run edits features from to (k + length b.consumed) base more others s.2,
)

stays_all : (edits : List Edit) (features from to : ℕ) (base more others : List Event) → StayHere edits (shifted_events from base)
    → ComeFrom features (to + length (consumed_by base)) (origins edits (from + length (consumed_by base)) more) others
    → ComeFrom features to (origins edits from (shifted_events from base ++ more)) (shifted_events to base ++ others)
stays_all edits features from to base more others s h =
    subst₂ (λ (m n : ℕ). ComeFrom features m (origins edits n (shifted_events from base ++ more)) (shifted_events to base ++ others))
    (omega arith) (omega arith)
    (stays_run edits features from to 0 base more others s
    (subst (λ (n : ℕ). ComeFrom features (to + n) (origins edits (from + n) more) others) (omega arith) h))

-- ---- new sections

new_here : (features at : ℕ) (s : NewSection) → Fits s → section_event features at custom (frame_of s) ≡ new_event features at s
new_here features at s fits =
    let e : name (Some name_limit) (content_of s) ≡ named s.name.now (length (encoded_name s.name.now)) =
    names_back s.name.now s.«data».now fits.text fits.short in
    ap (λ (n : Name). record {
      report = custom_report features (content_at at s) (at + length (encoded_section s)) (content_of s) n;
      consumed = encoded_section s;
    }) e

new_events_of : (features at : ℕ) (encoding : Encoding) (s : NewSection) → Fits s
    → FrameEvents features encoding at (frame_of s) (new_event features at s ∷ [])
new_events_of features at Module s fits = ap (λ (e : Event). e ∷ []) (sym (new_here features at s fits))
new_events_of features at Component s fits = ap (λ (e : Event). e ∷ []) (sym (new_here features at s fits))

-- the events of new sections, of which the first begins at this offset
abbrev pub new_events : (features at : ℕ) → List NewSection → List Event
new_events features at [] = []
new_events features at (s ∷ sections) = new_event features at s ∷ new_events features (at + length (encoded_section s)) sections

news_are : (features at : ℕ) (encoding : Encoding) (sections : List NewSection) → All Fits sections
    → FramesEvents features encoding at (map frame_of sections) (new_events features at sections)
news_are features at encoding [] fits = refl
news_are features at encoding (s ∷ sections) fits = (
  new_event features at s ∷ [],
  new_events features (at + length (encoded_section s)) sections,
  refl,
  new_events_of features at encoding s (All-head Fits s sections fits),
  news_are features (at + length (encoded_section s)) encoding sections (All-tail Fits s sections fits),
)

news_come : (features at : ℕ) (sections : List NewSection) (first : List EventOrigin) (others : List Event)
    → ComeFrom features (at + length (flat_map frame_bytes (map frame_of sections))) first others
    → ComeFrom features at (map (λ s. new_section s) sections ++ first) (new_events features at sections ++ others)
news_come features at [] first others h = subst (λ (n : ℕ). ComeFrom features n first others) (omega arith) h
news_come features at (s ∷ sections) first others h = (
  refl,
  news_come features (at + length (encoded_section s)) sections first others
      (subst (λ (n : ℕ). ComeFrom features n first others)
      (omega (arith, length-append (encoded_section s) (flat_map frame_bytes (map frame_of sections)))) h),
)

-- ---- what edits append

left_fits : (b : Bool) (fate : Fate) → CanBeWritten fate → CanBeWritten (cond b fate Goes)
left_fits true fate w = w
left_fits false fate w = tt

new_or_old_fits : (b : Bool) (s : NewSection) (old : Fate) → Fits s → CanBeWritten old → CanBeWritten (cond b (Becomes s) old)
new_or_old_fits true s old f w = f
new_or_old_fits false s old f w = w

replaced_fits : (edit : Edit) (text : List ℕ) (old : Fate) → CanBeMade edit → CanBeWritten old → CanBeWritten (replaces edit text old)
replaced_fits (Replace s) text old f w = new_or_old_fits (bytes_eq text s.name.now) s old f w
replaced_fits (Keep keep) text old f w = w
replaced_fits (Remove name) text old f w = w
replaced_fits (Append s) text old f w = w

fate_fits : (edits : List Edit) (text : List ℕ) (old : Fate) → All CanBeMade edits → CanBeWritten old
    → CanBeWritten (fate_from old edits text)
fate_fits [] text old fits o = o
fate_fits (edit ∷ edits) text old fits o =
    left_fits (leaves edit text) (fate_from (replaces edit text old) edits text)
    (fate_fits edits text (replaces edit text old) (All-tail CanBeMade edit edits fits)
    (replaced_fits edit text old (All-head CanBeMade edit edits fits) o))

new_of : (s : NewSection) (fate : Fate) → map frame_of (new_in (as_other s fate)) ≡ frames_as fate (frame_of s)
new_of s Stays = refl
new_of s Goes = refl
new_of s (Becomes section) = refl

added_is : (edit : Edit) (later : List Edit) → All CanBeMade (edit ∷ later)
    → flat_map (made_by later) (appended_by edit) ≡ map frame_of (new_in (added_by edit later))
added_is (Append s) later fits =
    append-nil (made_by later (frame_of s))
    ∙ (named_made later s.name.now (frame_of s) (All-tail CanBeMade (Append s) later fits)
    (made_is_named s (All-head CanBeMade (Append s) later fits))
    ∙ sym (new_of s (fate_by later s.name.now)))
added_is (Keep keep) later fits = refl
added_is (Remove name) later fits = refl
added_is (Replace section) later fits = refl

-- what is appended are the new sections
appended_is : (edits : List Edit) → All CanBeMade edits → appended edits ≡ map frame_of (new_sections edits)
appended_is [] fits = refl
appended_is (edit ∷ later) fits =
    ap (λ (fs : List SectionFrame). fs ++ appended later) (added_is edit later fits)
    ∙ (ap (λ (fs : List SectionFrame). map frame_of (new_in (added_by edit later)) ++ fs)
    (appended_is later (All-tail CanBeMade edit later fits))
    ∙ sym (map-append frame_of (new_in (added_by edit later)) (new_sections later)))

in_fits : (fate : Fate) → CanBeWritten fate → All Fits (new_in fate)
in_fits Stays f = All-nil Fits
in_fits Goes f = All-nil Fits
in_fits (Becomes section) f = All-cons Fits section [] f (All-nil Fits)

other_fits : (s : NewSection) (fate : Fate) → Fits s → CanBeWritten fate → CanBeWritten (as_other s fate)
other_fits s Stays f g = f
other_fits s Goes f g = tt
other_fits s (Becomes section) f g = g

added_fits : (edit : Edit) (later : List Edit) → All CanBeMade (edit ∷ later) → CanBeWritten (added_by edit later)
added_fits (Append s) later fits =
    other_fits s (fate_by later s.name.now) (All-head CanBeMade (Append s) later fits)
    (fate_fits later s.name.now Stays (All-tail CanBeMade (Append s) later fits) tt)
added_fits (Keep keep) later fits = tt
added_fits (Remove name) later fits = tt
added_fits (Replace section) later fits = tt

news_fit : (edits : List Edit) → All CanBeMade edits → All Fits (new_sections edits)
news_fit [] fits = All-nil Fits
news_fit (edit ∷ later) fits =
    All-append Fits (new_in (added_by edit later)) (new_sections later) (in_fits (added_by edit later) (added_fits edit later fits))
    (news_fit later (All-tail CanBeMade edit later fits))

-- ---- one section

-- The events of what edits make of sections, of which the first begins at one offset in the stream and at another one in
-- the result. They come from the sections' events, whatever comes after them.
pub record Edited (edits : List Edit) (features from to : ℕ) (encoding : Encoding) (frames made : List SectionFrame)
    (first : List Event) : Type 0 where
  pub here : List Event
  pub sections : FramesEvents features encoding to made here
  pub come : (more others : List Event)
      → ComeFrom features (to + length (flat_map frame_bytes made))
      (origins edits (from + length (flat_map frame_bytes frames)) more) others
      → ComeFrom features to (origins edits from (first ++ more)) (here ++ others)

one_frame : (f : SectionFrame) → length (flat_map frame_bytes (f ∷ [])) ≡ length (frame_bytes f)
one_frame f = ap length (append-nil (frame_bytes f))

-- a section that stays
section_stays : (edits : List Edit) (features from to : ℕ) (encoding : Encoding) (f : SectionFrame) (first : List Event)
    → FrameEvents features encoding from f first → StayHere edits first → consumed_by first ≡ frame_bytes f
    → Edited edits features from to encoding (f ∷ []) (f ∷ []) first
section_stays edits features from to encoding f first h s c =
    let Here : ℕ → List Event → Type 0 = λ n es. FrameEvents features encoding n f es in
    let same = (frames_read_the_same encoding [] [] f refl).1 features 0 in
    let (base, b, m) = (same from first).0 (subst (λ (n : ℕ). Here n first) (omega arith) h) in
    let e : FrameEvents features encoding to f (shifted_events to base) =
    subst (λ (n : ℕ). Here n (shifted_events to base)) (omega arith) ((same to (shifted_events to base)).1 (base, b, refl)) in
    let n : length (consumed_by base) ≡ length (flat_map frame_bytes (f ∷ [])) =
    ap length (sym (consumed_moved from base) ∙ (ap consumed_by (sym m) ∙ c)) ∙ sym (one_frame f) in
    record {
      here = shifted_events to base;
      sections = (shifted_events to base, [], sym (append-nil (shifted_events to base)), e, refl);
      come = λ more others g. subst (λ (xs : List Event). ComeFrom features to (origins edits from (xs ++ more))
          (shifted_events to base ++ others)) (sym m) (stays_all edits features from to base more others (subst (StayHere edits) m s)
          (subst (λ (k : ℕ). ComeFrom features (to + k) (origins edits (from + k) more) others) (sym n) g));
    }

-- what comes of an event that nothing comes before
origins_at : (edits : List Edit) (from : ℕ) (e : Event) (more : List Event) (fate : Fate) → added_before edits e.report ≡ []
    → report_fate edits e.report ≡ fate
    → origins edits from (e ∷ more) ≡ origins_in fate from e ++ origins edits (from + length e.consumed) more
origins_at edits from e more fate a f =
    ap (λ (xs : List NewSection). map (λ s. new_section s) xs
    ++ (origins_in (report_fate edits e.report) from e ++ origins edits (from + length e.consumed) more)) a
    ∙ ap (λ (g : Fate). origins_in g from e ++ origins edits (from + length e.consumed) more) f

-- the events from a custom section on
custom_origins : (edits : List Edit) (from : ℕ) (f : SectionFrame) (first more : List Event) (c : IsCustom f first) (fate : Fate)
    → fate_by edits c.text ≡ fate
    → origins edits from (first ++ more)
    ≡ origins_in fate from c.event ++ origins edits (from + length (flat_map frame_bytes (f ∷ []))) more
custom_origins edits from f first more c fate is =
    ap (λ (xs : List Event). origins edits from (xs ++ more)) c.alone
    ∙ (origins_at edits from c.event more fate (ap (added_before edits) c.reports) (ap (report_fate edits) c.reports ∙ is)
    ∙ ap (λ (n : ℕ). origins_in fate from c.event ++ origins edits (from + n) more) (ap length c.whole ∙ sym (one_frame f)))

-- a custom section
custom_becomes : (edits : List Edit) (features from to : ℕ) (encoding : Encoding) (f : SectionFrame) (first : List Event)
    → FrameEvents features encoding from f first → (c : IsCustom f first) → (fate : Fate) → fate_by edits c.text ≡ fate → CanBeWritten fate
    → Edited edits features from to encoding (f ∷ []) (frames_as fate f) first
custom_becomes edits features from to encoding f first h c Stays is w =
    section_stays edits features from to encoding f first h
    (subst (StayHere edits) (sym c.alone) (ap (report_fate edits) c.reports ∙ is, ap (added_before edits) c.reports, tt))
    (ap consumed_by c.alone ∙ (append-nil c.event.consumed ∙ c.whole))
custom_becomes edits features from to encoding f first h c Goes is w = record {
  here = [];
  sections = refl;
  come = λ more others g. subst₂ (λ (n : ℕ) (os : List EventOrigin). ComeFrom features n os others) (omega arith)
      (sym (custom_origins edits from f first more c Goes is)) g;
}
custom_becomes edits features from to encoding f first h c (Becomes s) is w = record {
  here = new_event features to s ∷ [];
  sections = (new_event features to s ∷ [], [], refl, new_events_of features to encoding s w, refl);
  come = λ more others g. subst (λ (os : List EventOrigin). ComeFrom features to os (new_event features to s ∷ others))
      (sym (custom_origins edits from f first more c (Becomes s) is)) (
        refl,
        subst (λ (n : ℕ). ComeFrom features (to + n) (origins edits (from + length (flat_map frame_bytes (f ∷ []))) more) others)
            (one_frame (frame_of s)) g,
      );
}

section_edited : (edits : List Edit) (features from to : ℕ) (encoding : Encoding) (f : SectionFrame) (first : List Event)
    → All CanBeMade edits → FrameEvents features encoding from f first → OtherOrCustom f first
    → Edited edits features from to encoding (f ∷ []) (made_by edits f) first
section_edited edits features from to encoding f first fits h (inl o) =
    subst (λ (fs : List SectionFrame). Edited edits features from to encoding (f ∷ []) fs first) (sym (other_made edits f o.other))
    (section_stays edits features from to encoding f first h
    (stay_of edits first o.none (kind_adds edits features from (kind_of encoding f.id) f first h)) o.whole)
section_edited edits features from to encoding f first fits h (inr c) =
    subst (λ (fs : List SectionFrame). Edited edits features from to encoding (f ∷ []) fs first)
    (sym (named_made edits c.text f fits c.named))
    (custom_becomes edits features from to encoding f first h c (fate_by edits c.text) refl (fate_fits edits c.text Stays fits tt))

-- ---- all sections

frames_append : (features at : ℕ) (encoding : Encoding) (xs ys : List SectionFrame) (first more : List Event)
    → FramesEvents features encoding at xs first → FramesEvents features encoding (at + length (flat_map frame_bytes xs)) ys more
    → FramesEvents features encoding at (xs ++ ys) (first ++ more)
frames_append features at encoding [] ys first more e f =
    subst₂ (λ (n : ℕ) (es : List Event). FramesEvents features encoding n ys (es ++ more)) (omega arith) (sym e) f
frames_append features at encoding (x ∷ xs) ys first more (here, later, w, h, t) f =
    let n : at + length (frame_bytes x ++ flat_map frame_bytes xs) ≡ at + length (frame_bytes x) + length (flat_map frame_bytes xs) =
    omega (arith, length-append (frame_bytes x) (flat_map frame_bytes xs)) in (
      here,
      later ++ more,
      ap (λ (es : List Event). es ++ more) w ∙ append_assoc here later more,
      h,
      frames_append features (at + length (frame_bytes x)) encoding xs ys later more t
          (subst (λ (m : ℕ). FramesEvents features encoding m ys more) n f),
    )

sections_edited : (edits : List Edit) (features from to : ℕ) (encoding : Encoding) (frames : List SectionFrame) (inner : List Event)
    → All CanBeMade edits → All (IsFrame encoding) frames → FramesEvents features encoding from frames inner
    → Edited edits features from to encoding frames (flat_map (made_by edits) frames) inner
sections_edited edits features from to encoding [] inner fits each e = record {
  here = [];
  sections = refl;
  come = λ more others g. subst (λ (xs : List Event). ComeFrom features to (origins edits from (xs ++ more)) others) (sym e)
      (subst₂ (λ (m n : ℕ). ComeFrom features m (origins edits n more) others) (omega arith) (omega arith) g);
}
sections_edited edits features from to encoding (f ∷ frames) inner fits each (first, later, w, h, t) =
    let made : List SectionFrame = made_by edits f in
    let all : List SectionFrame = flat_map (made_by edits) frames in
    let i : IsFrame encoding f = All-head (IsFrame encoding) f frames each in
    let o = section_edited edits features from to encoding f first fits h (events_here features from encoding f first i h) in
    let l = sections_edited edits features (from + length (frame_bytes f)) (to + length (flat_map frame_bytes made)) encoding frames later
    fits (All-tail (IsFrame encoding) f frames each) t in
    record {
      here = o.here ++ l.here;
      sections = frames_append features to encoding made all o.here l.here o.sections l.sections;
      come = λ more others g.
          let m : to + length (flat_map frame_bytes (made ++ all))
          ≡ to + length (flat_map frame_bytes made) + length (flat_map frame_bytes all) =
          omega (
            arith,
            ap length (flat_map-append frame_bytes made all),
            length-append (flat_map frame_bytes made) (flat_map frame_bytes all),
          ) in
          let n : from + length (frame_bytes f ++ flat_map frame_bytes frames)
          ≡ from + length (frame_bytes f) + length (flat_map frame_bytes frames) =
          omega (arith, length-append (frame_bytes f) (flat_map frame_bytes frames)) in
          let k = l.come more others (subst₂ (λ (x y : ℕ). ComeFrom features x (origins edits y more) others) m n g) in
          let j = o.come (later ++ more) (l.here ++ others)
          (subst (λ (x : ℕ). ComeFrom features (to + length (flat_map frame_bytes made)) (origins edits (from + x) (later ++ more))
          (l.here ++ others)) (sym (one_frame f)) k) in
          subst₂ (λ (xs ys : List Event). ComeFrom features to (origins edits from xs) ys)
          (sym (ap (λ (xs : List Event). xs ++ more) w ∙ append_assoc first later more)) (sym (append_assoc o.here l.here others)) j;
    }

-- ---- the whole stream

pub readings_edited : ReadingsAreEdited
readings_edited edits stream result features events others fits s r i x y =
    let a : IsAccepted stream = i.accepted in
    let t : TellsFrames 0 features a.encoding a.frames events = (frames_give_events stream 0 features events s a).0 x in
    let start : ℕ = 0 + length (header_bytes a.encoding) in
    let l = sections_edited edits features start start a.encoding a.frames t.inner fits a.each t.sections in
    let made : List SectionFrame = flat_map (made_by edits) a.frames in
    let new : List NewSection = new_sections edits in
    let between : ℕ = start + length (flat_map frame_bytes made) in
    let after : after_edits edits a.frames ≡ made ++ map frame_of new =
    section_by_section edits a.frames ∙ ap (λ (fs : List SectionFrame). made ++ fs) (appended_is edits fits) in
    let inner : List Event = l.here ++ new_events features between new in
    let told : FramesEvents features a.encoding start (made ++ map frame_of new) inner =
    frames_append features start a.encoding made (map frame_of new) l.here (new_events features between new) l.sections
    (news_are features between a.encoding new (news_fit edits fits)) in
    let end : ℕ = 0 + length (header_bytes a.encoding ++ flat_map frame_bytes a.frames) in
    let later : ℕ = 0 + length (header_bytes a.encoding ++ flat_map frame_bytes (after_edits edits a.frames)) in
    let theirs : List Event = header_event 0 a.encoding ∷ (inner ++ last_event (ended later) ∷ []) in
    let tells : TellsFrames 0 features a.encoding (after_edits edits a.frames) theirs = record {
      inner = inner;
      sections = subst (λ (fs : List SectionFrame). FramesEvents features a.encoding start fs inner) (sym after) told;
      whole = refl;
    } in
    let same : theirs ≡ others = reading_same result 0 features theirs others
    ((frames_give_events result 0 features theirs r i.still).1
    (subst₂ (λ (e : Encoding) (fs : List SectionFrame). TellsFrames 0 features e fs theirs) (sym i.encoding) (sym i.frames) tells)) y in
    let ended_at : end ≡ start + length (flat_map frame_bytes a.frames) =
    omega (arith, length-append (header_bytes a.encoding) (flat_map frame_bytes a.frames)) in
    let ended_then : later ≡ between + length (flat_map frame_bytes (map frame_of new)) =
    omega (
      arith,
      ap (λ (fs : List SectionFrame). length (flat_map frame_bytes fs)) after,
      length-append (header_bytes a.encoding) (flat_map frame_bytes (after_edits edits a.frames)),
      ap length (flat_map-append frame_bytes made (map frame_of new)),
      length-append (flat_map frame_bytes made) (flat_map frame_bytes (map frame_of new)),
    ) in
    let z : ComeFrom features (between + length (flat_map frame_bytes (map frame_of new)))
    (event_at (start + length (flat_map frame_bytes a.frames)) (last_event (ended end)) ∷ []) (last_event (ended later) ∷ []) =
    (ap (λ (n : ℕ). last_event (ended n)) (omega (arith, ended_at, ended_then)), refl) in
    let v : ComeFrom features start (origins edits start (t.inner ++ last_event (ended end) ∷ []))
    (l.here ++ (new_events features between new ++ last_event (ended later) ∷ [])) =
    l.come (last_event (ended end) ∷ []) (new_events features between new ++ last_event (ended later) ∷ [])
    (news_come features between new (event_at (start + length (flat_map frame_bytes a.frames)) (last_event (ended end)) ∷ [])
    (last_event (ended later) ∷ []) z) in
    subst₂ (λ (xs ys : List Event). ComeFrom features 0 (origins edits 0 xs) ys) (sym t.whole) same (
      refl,
      subst (λ (xs : List Event). ComeFrom features start (origins edits start (t.inner ++ last_event (ended end) ∷ [])) xs)
          (sym (append_assoc l.here (new_events features between new) (last_event (ended later) ∷ []))) v,
    )
