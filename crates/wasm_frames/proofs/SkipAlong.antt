-- Where a caller is after a part that was skipped.
use Rattle.wasm_frames.proofs.Common.{◌≡◌, ℕ, ◌+◌, ◌<◌, List, [], ◌∷◌, ◌++◌, length, refl, sym, ap, subst, subst₂, ◌∙◌, arith}
use Rattle.wasm_frames.proofs.Common.{length-append, append_assoc, Some, at_offset, UnexpectedEof, fault, Event, tile_report, last_event}
use Rattle.wasm_frames.proofs.Common.{Reading, ParserState, Skip, SkipsPart, skip_in}
use Rattle.wasm_frames.specs.Along.{Along}
use Rattle.wasm_frames.specs.SkipNext.{PassesTile}
use Rattle.wasm_frames.specs.SkipAlong.{SkipCame, SkippingGoesAlong}
use Rattle.wasm_frames.proofs.Along.{pushed, event_here, offset_is, along_tile, reading_here}

module _ (start features : ℕ) (given : List ℕ) (p : ParserState) (first others : List ℕ) (events : List Event) (skip : Skip) where
  whole : (new : ParserState) (more bytes rest : List ℕ) → Along start features given p (first ++ others) events
      → SkipsPart p first skip new → (first ++ others) ++ more ≡ bytes ++ rest → p.offset + length bytes ≡ skip.to
      → SkipCame start features (given ++ more) events bytes rest skip new
  whole new more bytes rest a s w n =
      let b : Along start features (given ++ more) p (first ++ (others ++ more)) events =
      subst (λ (x : List ℕ). Along start features (given ++ more) p x events) (append_assoc first others more)
      (pushed start features given p (first ++ others) events more a) in
      let v : first ++ (others ++ more) ≡ bytes ++ rest = sym (append_assoc first others more) ∙ w in
      let k = ap (λ (x : List ℕ). length x) v ∙ length-append bytes rest in
      let t : PassesTile p (first ++ (others ++ more)) skip new = s.whole (others ++ more) (omega (arith, n, k)) in
      let l : length bytes ≡ length t.next.bytes = omega (arith, n, t.ends) in
      let z = along_tile start features (given ++ more) p (first ++ (others ++ more)) events b t.next bytes rest new t.is_next l v t.state
      in
      record {
        event = event_here start features (given ++ more) p (first ++ (others ++ more)) events b t.next;
        says = subst₂ (λ (f o : ℕ). skip_in (tile_report f o (o + length t.next.bytes) t.next.shape) ≡ Some skip) b.has_features
            (offset_is start features (given ++ more) p (first ++ (others ++ more)) events b)
            (subst (λ (x : ℕ). skip_in (tile_report p.features p.offset x t.next.shape) ≡ Some skip) (sym t.ends) t.says);
        consumed = z.1;
        is_along = z.0;
      }

  short : (new : ParserState) (more : List ℕ) → Along start features given p (first ++ others) events → SkipsPart p first skip new
      → p.offset + length ((first ++ others) ++ more) < skip.to
      → Reading (given ++ more) start features (events ++ last_event (fault (at_offset UnexpectedEof skip.from)) ∷ [])
  short new more a s l =
      let e = append_assoc first others more in
      let v = s.short (others ++ more) (rw e at l) in
      reading_here start features given p _ events a _ more _ refl (rw e v)

pub skipping_goes_along : SkippingGoesAlong
skipping_goes_along = record { whole = whole; short = short }
