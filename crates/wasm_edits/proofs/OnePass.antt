-- What edits make of each section, and what is appended.
use Rattle.wasm_edits.proofs.Common.{◌≡◌, ℕ, Bool, true, false, List, [], ◌∷◌, ◌++◌, length, refl, sym, subst, arith, ap, ◌∙◌, Some}
use Rattle.wasm_edits.proofs.Common.{append-nil, append_assoc, All-tail, All, filter, flat_map, SectionFrame, frame_bytes, frame_stays}
use Rattle.std.proofs.Common.{cond, nat_eq}
use Rattle.std.proofs.lemmas.Grind.{flat_map-append}
use Rattle.std.proofs.lemmas.List.Concat.{flat_map_single}
use Rattle.std.proofs.lemmas.List.Elements.{All-head, filter-append}
use Rattle.std.proofs.lemmas.Slice.Eq.{bytes_eq-Decides}
use Rattle.std.specs.Str.{bytes_eq}
use Rattle.wasm_base.specs.Name.{named, name_limit, name}
use Rattle.wasm_edits.proofs.Encodings.{names_back}
use Rattle.wasm_edits.specs.Edits.{CanBeMade, added_by, after_edit, after_edits, as_other, bytes_as, fate_by, fate_from, section_is_named}
use Rattle.wasm_edits.specs.Edits.{is_other_than}
use Rattle.wasm_edits.specs.Edits.{new_bytes, replaced_by}
use Rattle.wasm_edits.specs.Encoded.{Fits, encoded_name, encoded_section, frame_of}
use Rattle.wasm_edits.specs.declared.edits.Edit.{Edit}
use Rattle.wasm_edits.specs.declared.edits.Edit.TheVariants.{Append, Keep, Remove, Replace}
use Rattle.wasm_edits.specs.declared.edits.Fate.{Fate}
use Rattle.wasm_edits.specs.declared.edits.Fate.TheVariants.{Becomes, Goes, Stays}
use Rattle.wasm_edits.specs.declared.encoding.NewSection.{NewSection}
use Rattle.wasm_edits.specs.Fates.{stays_by}
use Rattle.wasm_grammar.specs.Ids.{custom_id}

-- ---- one section after the other

-- what an edit makes of a section
abbrev pub made_of : Edit → SectionFrame → List SectionFrame
made_of (Keep keep) f = filter (frame_stays (stays_by keep)) (f ∷ [])
made_of (Remove name) f = filter (frame_stays (is_other_than name.now)) (f ∷ [])
made_of (Append section) f = f ∷ []
made_of (Replace section) f = replaced_by section f ∷ []

-- what several edits make of a section, one after the other
abbrev pub made_by : List Edit → SectionFrame → List SectionFrame
made_by [] f = f ∷ []
made_by (edit ∷ edits) f = flat_map (made_by edits) (made_of edit f)

-- the sections that an edit appends
abbrev pub appended_by : Edit → List SectionFrame
appended_by (Append section) = frame_of section ∷ []
appended_by other = []

-- the sections that edits append, as the later ones leave them
abbrev pub appended : List Edit → List SectionFrame
appended [] = []
appended (edit ∷ edits) = flat_map (made_by edits) (appended_by edit) ++ appended edits

one_each : (p : SectionFrame → Bool) (frames : List SectionFrame) → flat_map (λ f. filter p (f ∷ [])) frames ≡ filter p frames
one_each p [] = refl
one_each p (f ∷ frames) = ap (λ (fs : List SectionFrame). filter p (f ∷ []) ++ fs) (one_each p frames)
    ∙ sym (filter-append p (f ∷ []) frames)

alone : (frames : List SectionFrame) → flat_map (λ f. f ∷ []) frames ≡ frames
alone [] = refl
alone (f ∷ frames) = ap (λ (fs : List SectionFrame). f ∷ fs) (alone frames)

in_two : (g h : SectionFrame → List SectionFrame) (frames : List SectionFrame)
    → flat_map g (flat_map h frames) ≡ flat_map (λ f. flat_map g (h f)) frames
in_two g h [] = refl
in_two g h (f ∷ frames) = flat_map-append g (h f) (flat_map h frames)
    ∙ ap (λ (fs : List SectionFrame). flat_map g (h f) ++ fs) (in_two g h frames)

after_one : (edit : Edit) (frames : List SectionFrame) → after_edit edit frames ≡ flat_map (made_of edit) frames ++ appended_by edit
after_one (Keep keep) frames =
    sym (append-nil (flat_map (made_of (Keep keep)) frames) ∙ one_each (frame_stays (stays_by keep)) frames)
after_one (Remove name) frames =
    sym (append-nil (flat_map (made_of (Remove name)) frames) ∙ one_each (frame_stays (is_other_than name.now)) frames)
after_one (Append section) frames = ap (λ (fs : List SectionFrame). fs ++ frame_of section ∷ []) (sym (alone frames))
after_one (Replace section) frames =
    sym (append-nil (flat_map (made_of (Replace section)) frames) ∙ flat_map_single (replaced_by section) frames)

-- the sections after edits are what they make of each section, and what they append
pub section_by_section : (edits : List Edit) (frames : List SectionFrame)
    → after_edits edits frames ≡ flat_map (made_by edits) frames ++ appended edits
section_by_section [] frames = sym (append-nil (flat_map (λ f. f ∷ []) frames) ∙ alone frames)
section_by_section (edit ∷ edits) frames =
    let made : List SectionFrame = flat_map (made_of edit) frames in
    let new : List SectionFrame = flat_map (made_by edits) (appended_by edit) in
    section_by_section edits (after_edit edit frames)
    ∙ (ap (λ (fs : List SectionFrame). flat_map (made_by edits) fs ++ appended edits) (after_one edit frames)
    ∙ (ap (λ (fs : List SectionFrame). fs ++ appended edits) (flat_map-append (made_by edits) made (appended_by edit))
    ∙ (append_assoc (flat_map (made_by edits) made) new (appended edits)
    ∙ ap (λ (fs : List SectionFrame). fs ++ (new ++ appended edits)) (in_two (made_by edits) (made_of edit) frames))))

-- ---- a section by its name

-- The section is custom, and has this name.
pub record IsNamed (text : List ℕ) (f : SectionFrame) : Type 0 where
  pub id : f.id ≡ custom_id
  pub used : ℕ
  pub reads : name (Some name_limit) f.sized.content ≡ named text used

pub named_stays : (keeps : List ℕ → Bool) (text : List ℕ) (f : SectionFrame) → IsNamed text f → frame_stays keeps f ≡ keeps text
named_stays keeps text f n = rw (n.id, n.reads) refl

named_is : (other text : List ℕ) (f : SectionFrame) → IsNamed text f → section_is_named other f ≡ bytes_eq text other
named_is other text f n = rw (n.id, n.reads) refl

pub made_is_named : (s : NewSection) → Fits s → IsNamed s.name.now (frame_of s)
made_is_named s fits = record {
  id = refl;
  used = length (encoded_name s.name.now);
  reads = names_back s.name.now s.«data».now fits.text fits.short;
}

-- the sections that this leaves of a section
abbrev pub frames_as : Fate → SectionFrame → List SectionFrame
frames_as Stays f = f ∷ []
frames_as Goes f = []
frames_as (Becomes section) f = frame_of section ∷ []

-- a section that stays or goes
left_by : (edits : List Edit) (f g : SectionFrame) (fate : Fate) → made_by edits g ≡ frames_as fate f → (b : Bool)
    → flat_map (made_by edits) (cond b (g ∷ []) []) ≡ frames_as (cond b fate Goes) f
left_by edits f g fate h true = append-nil (made_by edits g) ∙ h
left_by edits f g fate h false = refl

-- a section that is replaced or not
replaced_or_not : (s : NewSection) (edits : List Edit) (text : List ℕ) (f g : SectionFrame) (old : Fate) → Fits s → IsNamed text g
    → frames_as old f ≡ g ∷ []
    → ((g : SectionFrame) (old : Fate) → frames_as old f ≡ g ∷ [] → IsNamed text g
    → made_by edits g ≡ frames_as (fate_from old edits text) f)
    → (b : Bool) → bytes_eq text s.name.now ≡ b
    → made_by edits (cond b (frame_of s) g) ≡ frames_as (fate_from (cond b (Becomes s) old) edits text) f
replaced_or_not s edits text f g old fits n is ih true e =
    let same : s.name.now ≡ text = sym (grind (arith, bytes_eq-Decides)) in
    ih (frame_of s) (Becomes s) refl (subst (λ (t : List ℕ). IsNamed t (frame_of s)) same (made_is_named s fits))
replaced_or_not s edits text f g old fits n is ih false e = ih g old is n

-- what edits make of what became of a section with this name
named_from : (edits : List Edit) (text : List ℕ) (f g : SectionFrame) (old : Fate) → All CanBeMade edits → frames_as old f ≡ g ∷ []
    → IsNamed text g → made_by edits g ≡ frames_as (fate_from old edits text) f
named_from [] text f g old fits is n = sym is
named_from (Keep keep ∷ edits) text f g old fits is n =
    let ih : made_by edits g ≡ frames_as (fate_from old edits text) f =
    named_from edits text f g old (All-tail CanBeMade (Keep keep) edits fits) is n in
    ap (λ (b : Bool). flat_map (made_by edits) (cond b (g ∷ []) [])) (named_stays (stays_by keep) text g n)
    ∙ left_by edits f g (fate_from old edits text) ih (stays_by keep text)
named_from (Remove name ∷ edits) text f g old fits is n =
    let ih : made_by edits g ≡ frames_as (fate_from old edits text) f =
    named_from edits text f g old (All-tail CanBeMade (Remove name) edits fits) is n in
    ap (λ (b : Bool). flat_map (made_by edits) (cond b (g ∷ []) [])) (named_stays (is_other_than name.now) text g n)
    ∙ left_by edits f g (fate_from old edits text) ih (is_other_than name.now text)
named_from (Append section ∷ edits) text f g old fits is n =
    append-nil (made_by edits g) ∙ named_from edits text f g old (All-tail CanBeMade (Append section) edits fits) is n
named_from (Replace section ∷ edits) text f g old fits is n =
    append-nil (made_by edits (replaced_by section g))
    ∙ (ap (λ (b : Bool). made_by edits (cond b (frame_of section) g)) (named_is section.name.now text g n)
    ∙ replaced_or_not section edits text f g old (All-head CanBeMade (Replace section) edits fits) n is
    (λ h new is' n'. named_from edits text f h new (All-tail CanBeMade (Replace section) edits fits) is' n')
    (bytes_eq text section.name.now) refl)

-- edits make of a section with this name what is said of its name
pub named_made : (edits : List Edit) (text : List ℕ) (f : SectionFrame) → All CanBeMade edits → IsNamed text f
    → made_by edits f ≡ frames_as (fate_by edits text) f
named_made edits text f fits n = named_from edits text f f Stays fits refl n

-- edits leave a section that isn't custom
pub other_made : (edits : List Edit) (f : SectionFrame) → nat_eq f.id custom_id ≡ false → made_by edits f ≡ f ∷ []
other_made [] f e = refl
other_made (Keep keep ∷ edits) f e = rw e (append-nil (made_by edits f) ∙ other_made edits f e)
other_made (Remove name ∷ edits) f e = rw e (append-nil (made_by edits f) ∙ other_made edits f e)
other_made (Append section ∷ edits) f e = append-nil (made_by edits f) ∙ other_made edits f e
other_made (Replace section ∷ edits) f e = rw e (append-nil (made_by edits f) ∙ other_made edits f e)

-- ---- their bytes

pub bytes_of_left : (fate : Fate) (f : SectionFrame) → flat_map frame_bytes (frames_as fate f) ≡ bytes_as fate (frame_bytes f)
bytes_of_left Stays f = append-nil (frame_bytes f)
bytes_of_left Goes f = refl
bytes_of_left (Becomes section) f = append-nil (encoded_section section)

bytes_of_new : (s : NewSection) (fate : Fate) → flat_map frame_bytes (frames_as fate (frame_of s)) ≡ bytes_as (as_other s fate) []
bytes_of_new s Stays = append-nil (encoded_section s)
bytes_of_new s Goes = refl
bytes_of_new s (Becomes section) = append-nil (encoded_section section)

bytes_of_one : (edit : Edit) (edits : List Edit) → All CanBeMade (edit ∷ edits)
    → flat_map frame_bytes (flat_map (made_by edits) (appended_by edit)) ≡ bytes_as (added_by edit edits) []
bytes_of_one (Append s) edits fits =
    ap (flat_map frame_bytes) (append-nil (made_by edits (frame_of s))
    ∙ named_made edits s.name.now (frame_of s) (All-tail CanBeMade (Append s) edits fits)
    (made_is_named s (All-head CanBeMade (Append s) edits fits)))
    ∙ bytes_of_new s (fate_by edits s.name.now)
bytes_of_one (Keep keep) edits fits = refl
bytes_of_one (Remove name) edits fits = refl
bytes_of_one (Replace section) edits fits = refl

-- the bytes of the sections that are appended
pub bytes_of_appended : (edits : List Edit) → All CanBeMade edits → flat_map frame_bytes (appended edits) ≡ new_bytes edits
bytes_of_appended [] fits = refl
bytes_of_appended (edit ∷ edits) fits =
    flat_map-append frame_bytes (flat_map (made_by edits) (appended_by edit)) (appended edits)
    ∙ (ap (λ (xs : List ℕ). xs ++ flat_map frame_bytes (appended edits)) (bytes_of_one edit edits fits)
    ∙ ap (λ (xs : List ℕ). bytes_as (added_by edit edits) [] ++ xs) (bytes_of_appended edits (All-tail CanBeMade edit edits fits)))
