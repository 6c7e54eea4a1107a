-- The sections of an accepted stream determine its reading, and there is one division into sections.
use Rattle.wasm_grammar.proofs.Common.{arith, ◌≡◌, List, [], ◌∷◌, refl, ℕ, ◌+◌, length, sym, ◌∙◌, All-head, All-tail, All, flat_map}
use Rattle.wasm_grammar.proofs.Common.{SectionFrame, Sized, sized_bytes, IsSized, frame_bytes, CodeDivision, ended, code_events}
use Rattle.wasm_grammar.proofs.Common.{FramesEvents, Reads, Event, Encoding}
use Rattle.wasm_grammar.specs.FrameLaws.{OneDivision, FramesGiveEvents}
use Rattle.wasm_grammar.proofs.accepted.Walks.{ReportedAs, Reached, accepted_walk, accepted_ends_there}
use Rattle.wasm_grammar.proofs.frames.Same.{prefixes_same, numbers_same, sized_same, frames_same}
use Rattle.wasm_grammar.proofs.readings.Readings.{reads_same}

-- ---- divided in one way

pub one_division : OneDivision
one_division stream a b = grind (arith, frames_same)

-- as many bodies, with the same bytes
bodies_same : (ss ts : List Sized) → All IsSized ss → All IsSized ts → length ss ≡ length ts → flat_map sized_bytes ss
    ≡ flat_map sized_bytes ts → ss ≡ ts
bodies_same [] [] a b n e = refl
bodies_same (s ∷ ss) (t ∷ ts) a b n e =
    let q : ((s ≡ t) × (flat_map sized_bytes ss ≡ flat_map sized_bytes ts)) = grind (arith, sized_same, All-head) in
    grind (arith, All-tail, bodies_same ss ts (All-tail IsSized s ss a) (All-tail IsSized t ts b) (omega arith) q.1)
bodies_same _ _ a b n e = absurd (omega arith)

code_events_same : (features at : ℕ) (f : SectionFrame) (d e : CodeDivision f.sized.content) → code_events features at f d
    ≡ code_events features at f e
code_events_same features at f d e =
    let q : ((d.field ≡ e.field) × (d.bodies ≡ e.bodies)) = grind (arith, numbers_same, prefixes_same, bodies_same) in
    grind arith

-- sections have one list of events
frames_events_same : (features : ℕ) (encoding : Encoding) (at : ℕ) (frames : List SectionFrame) (xs ys : List Event)
    → FramesEvents features encoding at frames xs → FramesEvents features encoding at frames ys → xs ≡ ys
frames_events_same features encoding at [] xs ys x y = x ∙ sym y
frames_events_same features encoding at (f ∷ frames) xs ys (a, b, w, h, t) (c, d, v, i, u) =
    grind (arith, frames_events_same features encoding (at + length (frame_bytes f)) frames b d t u, code_events_same)

-- ---- determined by sections

pub frames_give_events : FramesGiveEvents
frames_give_events stream start features events s a =
    let q : Reached start a.encoding a.frames = accepted_walk stream start s.fits a in
    let reads : Reads stream start q.tiles (ended (start + length stream)) = accepted_ends_there stream start a q in
    let t : ReportedAs start features a.encoding a.frames q.tiles = q.there.reported_as features in (
      λ r.
          let (z, y) = reads_same stream start r.tiles q.tiles r.end (ended (start + length stream)) r.reads reads in
          let z' : r.tiles ≡ q.tiles = z in
          let y' : r.end ≡ ended (start + length stream) = y in
          record {
            inner = t.inner;
            sections = t.sections;
            whole = cc;
          },
      λ h. record {
        tiles = q.tiles;
        end = ended (start + length stream);
        reads = reads;
        listed = grind (arith, frames_events_same);
      },
    )
