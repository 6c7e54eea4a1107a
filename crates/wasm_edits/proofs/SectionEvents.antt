-- The events of a section: one that is custom with the section's name, or others.
use Rattle.wasm_edits.proofs.Common.{◌≡◌, ℕ, ◌+◌, ◌⊎◌, inl, inr, Bool, true, false, List, [], ◌∷◌, length, refl, sym}
use Rattle.wasm_edits.proofs.Common.{arith, append-nil, append_assoc, eqb-true, ◌∙◌, flat_map, SectionFrame}
use Rattle.wasm_edits.proofs.Common.{frame_bytes, IsFrame, consumed_by, Event, Encoding}
use Rattle.std.proofs.Common.{nat_eq}
use Rattle.std.proofs.lemmas.Bool.{false_from_ne_true}
use Rattle.wasm_base.specs.Window.{Window, window_over}
use Rattle.wasm_edits.proofs.OnePass.{IsNamed}
use Rattle.wasm_grammar.specs.Accepted.{Sized, sized_bytes, IsGood, IsFormed, CodeDivision}
use Rattle.wasm_grammar.specs.Content.{Kind, custom, items, index, data_count, unknown, code, kind_of, Form, whole}
use Rattle.wasm_grammar.specs.FrameEvents.{section_event, body_events, code_events, KindEvents, FrameEvents}
use Rattle.wasm_grammar.specs.Ids.{custom_id}
use Rattle.wasm_grammar.specs.Reading.{Report, custom_section}
use Rattle.wasm_grammar.specs.declared.encoding.Encoding.TheVariants.{Module, Component}
use Rattle.wasm_frames.proofs.ForCallers.{custom_has_its_id}

-- whether this is the report of a custom section
abbrev pub is_custom : Report → Bool
is_custom (custom_section text data_offset window) = true
is_custom other = false

-- none of these events is that of a custom section
abbrev pub NoneCustom : List Event → Type 0
NoneCustom [] = Unit {0}
NoneCustom (e ∷ events) = (is_custom e.report ≡ false) × NoneCustom events

-- The section isn't custom, and neither are its events, which consumed its bytes.
pub record IsOther (f : SectionFrame) (events : List Event) : Type 0 where
  pub other : nat_eq f.id custom_id ≡ false
  pub none : NoneCustom events
  pub whole : consumed_by events ≡ frame_bytes f

-- The section is custom, and its only event has its name and consumed its bytes.
pub record IsCustom (f : SectionFrame) (events : List Event) : Type 0 where
  pub text : List ℕ
  pub named : IsNamed text f
  pub event : Event
  pub alone : events ≡ event ∷ []
  pub data_offset : ℕ
  pub window : Window
  pub reports : event.report ≡ custom_section text data_offset window
  pub whole : event.consumed ≡ frame_bytes f

abbrev pub OtherOrCustom : SectionFrame → List Event → Type 0
OtherOrCustom f events = IsOther f events ⊎ IsCustom f events

custom_here : (features at : ℕ) (encoding : Encoding) (f : SectionFrame) → kind_of encoding f.id ≡ whole custom
    → IsFormed custom f.sized.content → OtherOrCustom f (section_event features at custom f ∷ [])
custom_here features at encoding f k (text, used, e) = inr (record {
  text = text;
  named = record { id = custom_has_its_id encoding f.id k; used = used; reads = e };
  event = section_event features at custom f;
  alone = refl;
  data_offset = at + 1 + length f.sized.field + used;
  window = window_over features (at + 1 + length f.sized.field) f.sized.content;
  reports = rw e refl;
  whole = refl;
})

-- the kind of custom sections is theirs alone
custom_kind : (encoding : Encoding) (id : ℕ) → id ≡ custom_id → kind_of encoding id ≡ whole custom
custom_kind Module id e = rw e refl
custom_kind Component id e = rw e refl

not_custom : (encoding : Encoding) (f : SectionFrame) (k : Kind) → kind_of encoding f.id ≡ k → (k ≡ whole custom → ⊥)
    → nat_eq f.id custom_id ≡ false
not_custom encoding f k e n =
    false_from_ne_true (nat_eq f.id custom_id) (λ t. n (sym e ∙ custom_kind encoding f.id (eqb-true f.id custom_id t)))

other_here : (features at : ℕ) (encoding : Encoding) (f : SectionFrame) (form : Form) → kind_of encoding f.id ≡ whole form
    → (whole form ≡ whole custom → ⊥) → is_custom (section_event features at form f).report ≡ false
    → OtherOrCustom f (section_event features at form f ∷ [])
other_here features at encoding f form k n r = inl (record {
  other = not_custom encoding f (whole form) k n;
  none = (r, tt);
  whole = append-nil (frame_bytes f);
})

form_here : (features at : ℕ) (encoding : Encoding) (f : SectionFrame) (form : Form) → kind_of encoding f.id ≡ whole form
    → IsFormed form f.sized.content → OtherOrCustom f (section_event features at form f ∷ [])
form_here features at encoding f custom k g = custom_here features at encoding f k g
form_here features at encoding f items k g = other_here features at encoding f items k (λ e. cc) refl
form_here features at encoding f index k g = other_here features at encoding f index k (λ e. cc) refl
form_here features at encoding f data_count k g = other_here features at encoding f data_count k (λ e. cc) refl
form_here features at encoding f unknown k g = other_here features at encoding f unknown k (λ e. cc) refl

bodies_none : (features at : ℕ) (bodies : List Sized) → NoneCustom (body_events features at bodies)
bodies_none features at [] = tt
bodies_none features at (s ∷ bodies) = (refl, bodies_none features (at + length (sized_bytes s)) bodies)

bodies_consumed : (features at : ℕ) (bodies : List Sized) → consumed_by (body_events features at bodies) ≡ flat_map sized_bytes bodies
bodies_consumed features at [] = refl
bodies_consumed features at (s ∷ bodies) = rw (bodies_consumed features (at + length (sized_bytes s)) bodies) refl

code_consumed : (features at : ℕ) (f : SectionFrame) (d : CodeDivision f.sized.content) → consumed_by (code_events features at f d)
    ≡ frame_bytes f
code_consumed features at f d = grind (arith, bodies_consumed, append_assoc)

code_none : (features at : ℕ) (f : SectionFrame) (d : CodeDivision f.sized.content) → NoneCustom (code_events features at f d)
code_none features at f d = (refl, search bodies_none)

kind_here : (features at : ℕ) (encoding : Encoding) (f : SectionFrame) (k : Kind) (events : List Event) → kind_of encoding f.id ≡ k
    → IsGood k f.sized.content → KindEvents features at k f events → OtherOrCustom f events
kind_here features at encoding f (whole form) events k g e = rw e (form_here features at encoding f form k g)
kind_here features at encoding f code events k g (d, e) = rw e (inl (record {
  other = not_custom encoding f code k (λ e. cc);
  none = code_none features at f d;
  whole = code_consumed features at f d;
}))

-- the events of a well-formed section are those
pub events_here : (features at : ℕ) (encoding : Encoding) (f : SectionFrame) (events : List Event) → IsFrame encoding f
    → FrameEvents features encoding at f events → OtherOrCustom f events
events_here features at encoding f events i e = kind_here features at encoding f (kind_of encoding f.id) events refl i.content e
