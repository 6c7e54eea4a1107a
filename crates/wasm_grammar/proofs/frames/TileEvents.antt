-- The events of a header's tile, and of the tiles of sections.
use Rattle.wasm_grammar.proofs.Common.{arith, ◌≡◌, List, [], ◌∷◌, ◌++◌, refl, ap, ℕ, ◌+◌, length, sym, ◌∙◌, append-nil, append_assoc, subst}
use Rattle.wasm_grammar.proofs.Common.{◌-◌, length-append, flat_map, SectionFrame, header_bytes, Sized, sized_bytes, frame_bytes}
use Rattle.wasm_grammar.proofs.Common.{CodeDivision, Form, header_event, section_event, FrameEvents, FramesEvents, section, code_id, Event}
use Rattle.wasm_grammar.proofs.Common.{event_of, Encoding}
use Rattle.wasm_grammar.specs.FrameEvents.{body_event, start_event}
use Rattle.wasm_grammar.proofs.accepted.Tiles.{made, header_version}
use Rattle.wasm_grammar.specs.Grammar

-- a header's
pub header_tile_event : (start features : ℕ) (encoding : Encoding)
    → event_of features (start + 0) (made (Grammar.version (header_version encoding) encoding) (header_bytes encoding))
    ≡ header_event start encoding
header_tile_event start features encoding = grind arith

-- a section's that is one tile
pub section_tile_event : (features o : ℕ) (form : Form) (f : SectionFrame)
    → event_of features o (made (section form f.id f.sized.content) (frame_bytes f)) ≡ section_event features o form f
section_tile_event features o form f = grind (arith, length-append)

-- that of the head of a code section
pub start_tile_event : (features o : ℕ) (f : SectionFrame) (d : CodeDivision f.sized.content) → f.id ≡ code_id
    → event_of features o (made (Grammar.code_start (length d.bodies) (length d.field) (length f.sized.content - length d.field))
    (10 ∷ (f.sized.field ++ d.field))) ≡ start_event o f d
start_tile_event features o f d z = grind (arith, length-append)

-- a body's
pub body_tile_event : (features o : ℕ) (s : Sized) → event_of features o (made (Grammar.code_entry s.content) (sized_bytes s))
    ≡ body_event features o s
body_tile_event features o s = grind (arith, length-append)

-- the events of one more section come after those of the others
pub push_events : (features : ℕ) (encoding : Encoding) (at : ℕ) (frames : List SectionFrame) (f : SectionFrame) (inner events : List Event)
    → FramesEvents features encoding at frames inner
    → FrameEvents features encoding (at + length (flat_map frame_bytes frames)) f events
    → FramesEvents features encoding at (frames ++ f ∷ []) (inner ++ events)
push_events features encoding at [] f inner events i e =
    let z : at + 0 ≡ at = omega arith in (
      events,
      [],
      ap (λ (x : List Event). x ++ events) i ∙ sym (append-nil events),
      subst (λ (x : ℕ). FrameEvents features encoding x f events) z e,
      refl,
    )
push_events features encoding at (g ∷ frames) f inner events (first, more, w, h, t) e =
    let z : at + length (flat_map frame_bytes (g ∷ frames)) ≡ at + length (frame_bytes g) + length (flat_map frame_bytes frames) =
    omega (arith, length-append (frame_bytes g) (flat_map frame_bytes frames)) in (
      first,
      more ++ events,
      ap (λ (x : List Event). x ++ events) w ∙ append_assoc first more events,
      h,
      push_events features encoding (at + length (frame_bytes g)) frames f more events t
          (rw z at e),
    )
