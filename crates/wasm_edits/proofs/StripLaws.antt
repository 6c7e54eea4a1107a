-- A stripped stream is accepted, and is read as the stream is but for what was dropped.
use Rattle.wasm_edits.proofs.Common.{◌≡◌, ℕ, ◌+◌, Bool, true, false, List, [], ◌∷◌, ◌++◌, length, refl, arith, length-append, subst}
use Rattle.wasm_edits.proofs.Common.{eqb-true, ◌≤◌, ◌<◌, ◌∙◌, ◌^◌, All-tail, All, filter, flat_map, fault_at}
use Rattle.wasm_edits.proofs.Common.{all_features, Error, SectionFrame, frame_bytes, IsFrame, fault, Ending, Event, last_event, Reading}
use Rattle.wasm_edits.proofs.Common.{Encoding, frame_stays, EndsWithFault, IsStripped}
use Rattle.std.proofs.Common.{cond, slice_index_or, Fits, w8}
use Rattle.std.proofs.Math.Facts.{Fits-lt-pow}
use Rattle.std.proofs.lemmas.List.{get_or_default}
use Rattle.std.proofs.lemmas.List.Elements.{All-append}
use Rattle.wasm_edits.specs.Stripped.{stripped, AreKept, StrippingTwiceIsOnce}
use Rattle.wasm_grammar.specs.Accepted.{header_bytes, IsAccepted}
use Rattle.wasm_grammar.specs.Content.{ended}
use Rattle.wasm_grammar.specs.FrameEvents.{header_event, TellsFrames}
use Rattle.wasm_grammar.specs.Grammar.{Tile}
use Rattle.wasm_grammar.specs.Reading.{Reads, Stream}
use Rattle.wasm_edits.proofs.KeptFrames.{bytes_of_frames, KeptOf, kept_of}
use Rattle.wasm_grammar.proofs.PlainLists.{all_prefix, Spares, filter_twice, each_of}
use Rattle.wasm_frames.proofs.ForCallers.{fault_ends, frames_give_events, one_division, rankless_may_go, reads_accepted}

-- ---- how a reading ends

pub push_same : {X : Type 0} (xs ys : List X) (x y : X) → xs ++ x ∷ [] ≡ ys ++ y ∷ [] → (xs ≡ ys) × (x ≡ y)
push_same [] [] x y e = (refl, cc)
push_same [] (b ∷ []) x y e = let z : [] ≡ y ∷ [] = cc in cc
push_same [] (b ∷ c ∷ ys) x y e = let z : [] ≡ c ∷ (ys ++ y ∷ []) = cc in cc
push_same (a ∷ []) [] x y e = let z : x ∷ [] ≡ [] = cc in cc
push_same (a ∷ c ∷ xs) [] x y e = let z : c ∷ (xs ++ x ∷ []) ≡ [] = cc in cc
push_same (a ∷ xs) (b ∷ ys) x y e =
    let t : xs ++ x ∷ [] ≡ ys ++ y ∷ [] = cc in
    grind (arith, push_same xs ys x y t)

-- a reading whose last event reports this ending ends so
ends_so : (stream : List ℕ) (events : List Event) (end : Ending) → Reading stream 0 all_features (events ++ last_event end ∷ [])
    → (tiles : List Tile) × Reads stream 0 tiles end
ends_so stream events end r = grind (arith, push_same)

-- a slice of bytes is a stream
pub stream_of : (bytes : List ℕ) → ((i : ℕ) → Fits w8 (slice_index_or bytes i 0)) → length bytes < 2 ^ 64 → Stream bytes 0
stream_of bytes fits l = record {
  each = λ k d lt. subst (λ (b : ℕ). b < 256) (get_or_default bytes k 0 d lt) (Fits-lt-pow (fits k));
  fits = omega (arith, l);
}

-- a stream that is read up to its end is accepted
pub accepted_of : (stream : List ℕ) (events : List Event) (offset : ℕ) → Stream stream 0
    → Reading stream 0 all_features (events ++ last_event (ended offset) ∷ []) → IsAccepted stream
accepted_of stream events offset s r =
    let (tiles, reads) = ends_so stream events (ended offset) r in
    search reads_accepted

-- one whose reading ends with a fault isn't
pub not_accepted : (stream : List ℕ) (e : Error) → Stream stream 0 → EndsWithFault stream e → IsAccepted stream → ⊥
not_accepted stream e s (events, r) = let (tiles, reads) = ends_so stream events (fault (fault_at e)) r in
    (fault_ends stream 0 s).1 (tiles, fault_at e, reads)

-- ---- the stripped stream is accepted

all_rest : (P : ℕ → Type 0) (xs ys : List ℕ) → All P (xs ++ ys) → All P ys
all_rest P [] ys a = a
all_rest P (x ∷ xs) ys a = all_rest P xs ys (All-tail P x (xs ++ ys) a)

kept_step : (P : ℕ → Type 0) (f : SectionFrame) (xs ys : List SectionFrame) → All P (frame_bytes f ++ flat_map frame_bytes xs)
    → All P (flat_map frame_bytes ys) → (b : Bool) → All P (flat_map frame_bytes (cond b (f ∷ ys) ys))
kept_step P f xs ys a h true = search (All-append, all_prefix)
kept_step P f xs ys a h false = h

all_kept : (P : ℕ → Type 0) (q : SectionFrame → Bool) (frames : List SectionFrame) → All P (flat_map frame_bytes frames)
    → All P (flat_map frame_bytes (filter q frames))
all_kept P q [] a = a
all_kept P q (f ∷ frames) a = kept_step P f frames (filter q frames) a
    (all_kept P q frames (search all_rest)) (q f)

length_step : (f : SectionFrame) (xs ys : List SectionFrame) → length (flat_map frame_bytes ys) ≤ length (flat_map frame_bytes xs)
    → (b : Bool) → length (flat_map frame_bytes (cond b (f ∷ ys) ys)) ≤ length (frame_bytes f ++ flat_map frame_bytes xs)
length_step f xs ys h b = grind (arith, length-append)

length_kept : (q : SectionFrame → Bool) (frames : List SectionFrame)
    → length (flat_map frame_bytes (filter q frames)) ≤ length (flat_map frame_bytes frames)
length_kept q [] = omega arith
length_kept q (f ∷ frames) = length_step f frames (filter q frames) (length_kept q frames) (q f)

-- a stripped stream is a stream
stream_kept : (keeps : List ℕ → Bool) (stream : List ℕ) (a : IsAccepted stream) → Stream stream 0
    → Stream (stripped keeps a.encoding a.frames) 0
stream_kept keeps stream a s =
    let h : List ℕ = header_bytes a.encoding in
    let e : All (λ b. b < 256) (h ++ flat_map frame_bytes a.frames) = rw a.whole at s.each in
    let n : length stream ≡ length h + length (flat_map frame_bytes a.frames) = grind (arith, length-append) in
    let f : 0 + length stream < 2 ^ 64 = s.fits in
    record {
      each = search (All-append, all_prefix, all_kept, all_rest);
      fits = omega (arith, f, n, length_kept (frame_stays keeps) a.frames, length-append h (bytes_of_frames keeps a.frames));
    }

-- an accepted stream is accepted when stripped, with the sections that stay
pub accepted_kept : (keeps : List ℕ → Bool) (stream : List ℕ) (a : IsAccepted stream)
    → (b : IsAccepted (stripped keeps a.encoding a.frames)) × (b.encoding ≡ a.encoding) × (b.frames ≡ filter (frame_stays keeps) a.frames)
accepted_kept keeps stream a = grind (arith, rankless_may_go, each_of, eqb-true)

-- ---- how it is read

kept_here : (keeps : List ℕ → Bool) (features : ℕ) (encoding : Encoding) (frames : List SectionFrame) (events : List Event)
    → All (IsFrame encoding) frames → (t : TellsFrames 0 features encoding frames events)
    → KeptOf keeps features encoding (0 + length (header_bytes encoding)) 0 frames t.inner
    (last_event (ended (0 + length (header_bytes encoding ++ flat_map frame_bytes frames))) ∷ [])
    (last_event (ended (0 + length (header_bytes encoding ++ bytes_of_frames keeps frames))) ∷ [])
kept_here keeps features encoding frames events a t = grind (arith, kept_of)

-- it is read as the stream, but for what was dropped
read_kept : (keeps : List ℕ → Bool) (stream : List ℕ) (a : IsAccepted stream) → Stream stream 0 → (features : ℕ) (events : List Event)
    → Reading stream 0 features events
    → (others : List Event) × Reading (stripped keeps a.encoding a.frames) 0 features others × AreKept keeps events others
read_kept keeps stream a s features events r =
    let t : TellsFrames 0 features a.encoding a.frames events = (frames_give_events stream 0 features events s a).0 r in
    let l = kept_here keeps features a.encoding a.frames events a.each t in
    let others : List Event = header_event 0 a.encoding ∷ (l.others
    ++ last_event (ended (0 + length (header_bytes a.encoding ++ bytes_of_frames keeps a.frames))) ∷ []) in
    let (b, e, f) = accepted_kept keeps stream a in
    let framed : TellsFrames 0 features a.encoding (filter (frame_stays keeps) a.frames) others =
    grind arith in (
      others,
      (frames_give_events (stripped keeps a.encoding a.frames) 0 features others (stream_kept keeps stream a s) b).1
          (grind arith),
      grind arith,
    )

-- the stream is stripped
pub is_stripped : (keeps : List ℕ → Bool) (stream : List ℕ) (a : IsAccepted stream) → Stream stream 0
    → IsStripped keeps stream (stripped keeps a.encoding a.frames)
is_stripped keeps stream a s = record {
  accepted = a;
  bytes = refl;
  still = (accepted_kept keeps stream a).0;
  reading = read_kept keeps stream a s;
}

-- ---- twice

pub stripping_twice : StrippingTwiceIsOnce
stripping_twice keeps stream once twice o t =
    let a : IsAccepted stream = o.accepted in
    let (b, e, f) = accepted_kept keeps stream a in
    let c : IsAccepted once = record {
      encoding = b.encoding;
      frames = b.frames;
      whole = o.bytes ∙ b.whole;
      each = b.each;
      order = b.order;
      functions = b.functions;
      segments = b.segments;
    } in
    let q : ((t.accepted.encoding ≡ c.encoding) × (t.accepted.frames ≡ c.frames)) = one_division once t.accepted c in
    grind (arith, filter_twice, each_of, Spares)
