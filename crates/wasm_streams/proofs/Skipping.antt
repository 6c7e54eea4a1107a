-- What is known of a stream after a part that was skipped by its first fields, and passed.
use Rattle.wasm_streams.proofs.Common.{◌≡◌, ℕ, ◌+◌, ◌^◌, ◌<◌, Bool, true, false, List, [], ◌∷◌, ◌++◌, length, drop, Some, refl, sym, ap}
use Rattle.wasm_streams.proofs.Common.{◌∙◌}
use Rattle.wasm_streams.proofs.Common.{arith, length-append, Option, subst, Consumes-trans, Consumes, fault_at, at_offset, all_features}
use Rattle.wasm_streams.proofs.Common.{Error, UnexpectedEof, fault, last_event, Event, seen, lending, Feed, held_by, weight, Reached, Asks}
use Rattle.wasm_streams.proofs.Common.{Cursor, Passing, Fault}
use Rattle.wasm_streams.specs.Beside.{unseen}
use Rattle.wasm_streams.specs.Passing.{SkipsHere}
use Rattle.wasm_grammar.specs.Reading.{Reading}
use Rattle.wasm_frames.specs.SkipNext.{Head, skip_in}
use Rattle.wasm_frames.specs.SkipAlong.{SkipCame}
use Rattle.wasm_streams.proofs.Reached.{AtEnd, ends_at}
use Rattle.wasm_frames.proofs.ForCallers.{skipping_goes_along}

-- The parser skipped a part where the feeder asked for more, and then these bytes were read.
module _ (stays_if : Head → Bool) (source rest : Option (List ℕ)) (events : List Event) (c : Cursor) (stored chunk : List ℕ)
    (a : Asks source rest (lending stored chunk c) events) (passing : Passing) (skipped : Cursor)
    (k : SkipsHere stays_if c (seen stored chunk) passing skipped) (fetched : List ℕ) where
  abbrev given : List ℕ
  given = a.reached.given

  pub same_held : held_by skipped stored chunk ≡ held_by c stored chunk
  same_held = ap (λ (y : Cursor). drop y.mark (seen stored chunk) ++ unseen stored chunk) k.same

  here : c.parser.offset + length (held_by c stored chunk) ≡ length given
  here = ends_at source rest (lending stored chunk c) events a.reached

  -- the stream ends within the part
  module _ (few : length (held_by skipped stored chunk) + length fetched < passing.size) where
    pub reads_short : Reading (given ++ fetched) 0 all_features (events ++ last_event (fault (at_offset UnexpectedEof passing.from)) ∷ [])
    reads_short =
        let h = ap (λ (l : List ℕ). length l) same_held in
        let z = k.size in
        let s = length-append (held_by c stored chunk) fetched in
        rw k.from (skipping_goes_along.short 0 all_features given c.parser (drop c.mark (seen stored chunk)) (unseen stored chunk) events
        k.skip skipped.parser fetched a.reached.is_along k.skips (omega (arith, few, h, z, s)))

    below : length (given ++ fetched) < 2 ^ 64
    below =
        let h = ap (λ (l : List ℕ). length l) same_held in
        let z = k.size in
        let s = length-append given fetched in
        let top = k.skips.fits in
        omega (arith, few, h, z, s, top, here)

    pub cut_within : (e : Error) → fault_at e ≡ at_offset UnexpectedEof passing.from
        → AtEnd (given ++ fetched) events true (Fault e) (fault (fault_at e))
    cut_within e is = record {
      ends = refl;
      within = λ l stream m. rw (m, is) reads_short;
      past_the_top = λ h. absurd (omega (arith, h, below));
      whole = λ z. cc;
    }

  -- these are the bytes of the part, and those after it
  module _ (part left : List ℕ) (parts : held_by skipped stored chunk ++ fetched ≡ part ++ left) where
    sizes : length (held_by skipped stored chunk) + length fetched ≡ length part + length left
    sizes =
        let s = length-append (held_by skipped stored chunk) fetched in
        let t = length-append part left in
        let e = ap (λ (l : List ℕ). length l) parts in
        omega (arith, s, t, e)

    pub is_short : length part < passing.size → left ≡ [] → length (held_by skipped stored chunk) + length fetched < passing.size
    is_short n none = let l = ap (λ (x : List ℕ). length x) none in omega (arith, n, l, sizes)

    came : length part ≡ passing.size → SkipCame 0 all_features (given ++ fetched) events part left k.skip skipped.parser
    came n =
        let z = k.size in
        skipping_goes_along.whole 0 all_features given c.parser (drop c.mark (seen stored chunk)) (unseen stored chunk) events k.skip
        skipped.parser fetched part left a.reached.is_along k.skips
        (subst (λ (l : List ℕ). l ++ fetched ≡ part ++ left) same_held parts) (omega (arith, n, z))

    -- the feeder after it
    pub past : length part ≡ passing.size → (rest' : Option (List ℕ)) → Consumes rest rest' fetched → (new : Feed)
        → new.state ≡ skipped.parser → new.held ≡ left → new.eof ≡ skipped.is_finished
        → (e : Event) × (skip_in e.report ≡ Some k.skip) × (e.consumed ≡ part) × Reached source rest' new (events ++ e ∷ [])
        × (weight new < weight (lending stored chunk c))
    past n rest' gave new state held eof =
        let came = came n in
        let open_still : new.eof ≡ false = eof ∙ (ap (λ (y : Cursor). y.is_finished) k.same ∙ a.undecided.0) in
        let after : Reached source rest' new (events ++ came.event ∷ []) = record {
          given = given ++ fetched;
          is_along = rw (state, held) came.is_along;
          gave = Consumes-trans source rest rest' given fetched a.reached.gave gave;
          at_end = λ z. absurd (let no : true ≡ false = sym z ∙ open_still in cc);
        } in
        let o = ends_at source rest' new (events ++ came.event ∷ []) after in
        let s = length-append given fetched in
        let l = ap (λ (x : List ℕ). length x) held in
        let h = ap (λ (x : List ℕ). length x) same_held in
        let f = k.fewer in
        let going : c.is_finished ≡ false = a.undecided.0 in
        let b = a.below in
        (came.event, came.says, came.consumed, after, rw (open_still, going) (omega (arith, o, s, l, h, f, n, sizes, here, b)))
