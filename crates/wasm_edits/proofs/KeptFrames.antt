-- The kept events of sections.
use Rattle.wasm_edits.proofs.Common.{◌≡◌, ℕ, ◌+◌, ◌⊎◌, inl, inr, Bool, true, false, List, [], ◌∷◌, ◌++◌, length, Some, refl, sym, subst}
use Rattle.wasm_edits.proofs.Common.{arith, ap, ◌∙◌, length-append, append_assoc, All-tail, All, filter, flat_map, SectionFrame}
use Rattle.wasm_edits.proofs.Common.{frame_bytes, IsFrame, Event, Encoding, frame_stays, event_stays}
use Rattle.std.proofs.Common.{not, ◌||◌}
use Rattle.std.proofs.lemmas.List.Elements.{All-head}
use Rattle.std.specs.List.{AllZip}
use Rattle.wasm_base.specs.Name.{name_limit, name}
use Rattle.wasm_edits.proofs.OnePass.{named_stays}
use Rattle.wasm_edits.proofs.SectionEvents.{IsCustom, NoneCustom, OtherOrCustom, events_here, is_custom}
use Rattle.wasm_edits.specs.Stripped.{staying, IsMovedBack, name_stays}
use Rattle.wasm_edits.specs.Fates.{report_stays}
use Rattle.wasm_grammar.specs.FrameEvents.{FrameEvents, FramesEvents}
use Rattle.wasm_grammar.specs.Reading.{Report, custom_section}
use Rattle.wasm_grammar.specs.Shifted.{shifted_events}
use Rattle.wasm_frames.proofs.ForCallers.{frames_read_the_same}

-- ---- the events of one section

-- each of these events stays
abbrev pub AllStay : (keeps : List ℕ → Bool) → List Event → Type 0
AllStay keeps [] = Unit {0}
AllStay keeps (e ∷ events) = (event_stays keeps e ≡ true) × AllStay keeps events

-- A section stays with all its events, or is dropped with its only one; its events consumed its bytes.
abbrev pub StaysOrGoes : (keeps : List ℕ → Bool) → SectionFrame → List Event → Type 0
StaysOrGoes keeps f events =
    ((frame_stays keeps f ≡ true) × AllStay keeps events)
    ⊎ ((frame_stays keeps f ≡ false) × (e : Event) × (events ≡ e ∷ []) × (event_stays keeps e ≡ false) × (e.consumed ≡ frame_bytes f))

other_stays : (keeps : List ℕ → Bool) (r : Report) → is_custom r ≡ false → report_stays keeps r ≡ true
other_stays keeps (custom_section text data_offset window) e = cc
other_stays keeps _ e = refl

others_stay : (keeps : List ℕ → Bool) (events : List Event) → NoneCustom events → AllStay keeps events
others_stay keeps [] n = tt
others_stay keeps (e ∷ events) n = (other_stays keeps e.report n.0, others_stay keeps events n.1)

custom_at : (keeps : List ℕ → Bool) (f : SectionFrame) (events : List Event) (c : IsCustom f events) (b : Bool) → keeps c.text ≡ b
    → StaysOrGoes keeps f events
custom_at keeps f events c true s =
    let e : event_stays keeps c.event ≡ true = ap (report_stays keeps) c.reports ∙ s in
    inl (named_stays keeps c.text f c.named ∙ s, subst (AllStay keeps) (sym c.alone) (e, tt))
custom_at keeps f events c false s =
    inr (named_stays keeps c.text f c.named ∙ s, c.event, c.alone, ap (report_stays keeps) c.reports ∙ s, c.whole)

stays_or_goes : (keeps : List ℕ → Bool) (f : SectionFrame) (events : List Event) → OtherOrCustom f events → StaysOrGoes keeps f events
stays_or_goes keeps f events (inl o) =
    inl (ap (λ (b : Bool). not b || name_stays keeps (name (Some name_limit) f.sized.content)) o.other, others_stay keeps events o.none)
stays_or_goes keeps f events (inr c) = custom_at keeps f events c (keeps c.text) refl

frame_at : (keeps : List ℕ → Bool) (features at : ℕ) (encoding : Encoding) (f : SectionFrame) (events : List Event) → IsFrame encoding f
    → FrameEvents features encoding at f events → StaysOrGoes keeps f events
frame_at keeps features at encoding f events i e = stays_or_goes keeps f events (events_here features at encoding f events i e)

-- ---- the events of all sections

-- events that stay, before others
stay_first : (keeps : List ℕ → Bool) (dropped : ℕ) (here : List Event) (rest kept : List Event)
    → AllStay keeps (shifted_events dropped here)
    → AllZip IsMovedBack (staying keeps dropped rest) kept
    → AllZip IsMovedBack (staying keeps dropped (shifted_events dropped here ++ rest)) (here ++ kept)
stay_first keeps dropped [] rest kept s z = z
stay_first keeps dropped (e ∷ here) rest kept s z = grind (arith, stay_first keeps dropped here rest kept s.1 z)

-- the bytes of the sections that stay
abbrev pub bytes_of_frames : (keeps : List ℕ → Bool) → List SectionFrame → List ℕ
bytes_of_frames keeps frames = flat_map frame_bytes (filter (frame_stays keeps) frames)

-- The kept events of sections, of which the first begins at this offset after this many bytes were dropped, and of
-- events after them.
pub record KeptOf (keeps : List ℕ → Bool) (features : ℕ) (encoding : Encoding) (at dropped : ℕ) (frames : List SectionFrame)
    (inner rest kept : List Event) : Type 0 where
  pub others : List Event
  pub sections : FramesEvents features encoding at (filter (frame_stays keeps) frames) others
  pub moved : AllZip IsMovedBack (staying keeps dropped (inner ++ rest)) (others ++ kept)

-- the kept events after those of sections, however many bytes of the sections were dropped
abbrev pub KeptAfter : (keeps : List ℕ → Bool) (at dropped : ℕ) (frames : List SectionFrame) (rest kept : List Event) → Type 0
KeptAfter keeps at dropped frames rest kept =
    (total : ℕ) → at + dropped + length (flat_map frame_bytes frames) ≡ at + length (bytes_of_frames keeps frames) + total
    → AllZip IsMovedBack (staying keeps total rest) kept

-- one section that stays
kept_stays : (keeps : List ℕ → Bool) (features : ℕ) (encoding : Encoding) (at dropped : ℕ) (f : SectionFrame) (frames : List SectionFrame)
    (first more rest kept : List Event) → FrameEvents features encoding (at + dropped) f first
    → frame_stays keeps f ≡ true → AllStay keeps first
    → KeptOf keeps features encoding (at + length (frame_bytes f)) dropped frames more rest kept
    → KeptOf keeps features encoding at dropped (f ∷ frames) (first ++ more) rest kept
kept_stays keeps features encoding at dropped f frames first more rest kept h s a t =
    let (here, e, m) = ((frames_read_the_same encoding [] [] f refl).1 features at dropped first).0 h in
    record {
      others = here ++ t.others;
      sections = rw s (here, t.others, refl, e, t.sections);
      moved = grind (arith, append_assoc, stay_first);
    }

-- one section that is dropped
kept_goes : (keeps : List ℕ → Bool) (features : ℕ) (encoding : Encoding) (at dropped : ℕ) (f : SectionFrame) (frames : List SectionFrame)
    (e : Event)
    (more rest kept : List Event) → frame_stays keeps f ≡ false
    → event_stays keeps e ≡ false → e.consumed ≡ frame_bytes f
    → KeptOf keeps features encoding at (dropped + length (frame_bytes f)) frames more rest kept
    → KeptOf keeps features encoding at dropped (f ∷ frames) (e ∷ more) rest kept
kept_goes keeps features encoding at dropped f frames e more rest kept s g c t = grind arith

-- all sections
pub kept_of : (keeps : List ℕ → Bool) (features : ℕ) (encoding : Encoding) (at dropped : ℕ) (frames : List SectionFrame)
    (inner rest kept : List Event) → All (IsFrame encoding) frames → FramesEvents features encoding (at + dropped) frames inner
    → KeptAfter keeps at dropped frames rest kept → KeptOf keeps features encoding at dropped frames inner rest kept
kept_of keeps features encoding at dropped [] inner rest kept a i k = grind arith
kept_of keeps features encoding at dropped (f ∷ frames) inner rest kept a (first, more, w, h, t) k =
    rw w (elim (frame_at keeps features (at + dropped) encoding f first (All-head (IsFrame encoding) f frames a) h) [
      | inl (s, b) ↦ kept_stays keeps features encoding at dropped f frames first more rest kept h s b
          (kept_of keeps features encoding (at + length (frame_bytes f)) dropped frames more rest kept
          (All-tail (IsFrame encoding) f frames a) (grind arith)
          (λ total e. k total (grind (arith, length-append))))
      | inr (s, e, z, g, c) ↦ subst (λ (x : List Event). KeptOf keeps features encoding at dropped (f ∷ frames) (x ++ more) rest kept)
          (sym z)
          (kept_goes keeps features encoding at dropped f frames e more rest kept s g c
          (kept_of keeps features encoding at (dropped + length (frame_bytes f)) frames more rest kept
          (All-tail (IsFrame encoding) f frames a) (grind arith)
          (λ total q. k total (grind (arith, length-append)))))
    ])
