-- Sections that have no rank may go, and come.
use Rattle.wasm_grammar.proofs.Common.{arith, ◌≡◌, inl, inr, Bool, true, false, cond, List, [], ◌∷◌, ◌++◌, refl, ap, ℕ, ◌+◌, length, ◌<◌}
use Rattle.wasm_grammar.proofs.Common.{sym, ◌∙◌, nat_lt, ltb-true, subst, All-nil, All-cons, All-head, All-tail, All, Any, filter, list_any}
use Rattle.wasm_grammar.proofs.Common.{SectionFrame, frame_count, frame_rank, IsSection, IsMatched, IsAccepted, Sized, sized_bytes}
use Rattle.wasm_grammar.proofs.Common.{FitsAfter, CodeDivision, kind_of, whole, Kind, code, rank_of, body_events, code_events}
use Rattle.wasm_grammar.proofs.Common.{data_count_id, function_id, Event, shifted_events, Encoding, Module}
use Rattle.std.proofs.Common.{ltb-false}
use Rattle.std.proofs.lemmas.List.Elements.{All-filter, All-weaker}
use Rattle.wasm_grammar.specs.FrameEvents.{KindEvents, has_rank, SayTheSame}
use Rattle.wasm_grammar.specs.FrameLaws.{FramesReadTheSame, RanklessMayGo}
use Rattle.wasm_grammar.proofs.PlainLists.{any_of, any_to, all_prefix, Spares, filter_twice}
use Rattle.wasm_grammar.proofs.accepted.Counts.{is_section, section_yes, yes_section}

-- ---- the remaining elements of lists

module _ {X : Type 0} where
  any_left : (p q : X → Bool) (xs : List X) → All (Spares p q) xs → list_any p (filter q xs) ≡ list_any p xs
  any_left p q [] a = refl
  any_left p q (x ∷ xs) a = grind (arith, All-head, All-tail, any_left p q xs (All-tail (Spares p q) x xs a))

  -- a remaining element was in the list, after all the remaining ones before it
  record LeftAfter (q : X → Bool) (xs : List X) (earlier : List X) (x : X) : Type 0 where
    before : List X
    after : List X
    whole : xs ≡ before ++ x ∷ after
    left : filter q before ≡ earlier

  left_step : (q : X → Bool) (y : X) (xs : List X) (x : X) (later : List X)
      → ((earlier : List X) → filter q xs ≡ earlier ++ x ∷ later → LeftAfter q xs earlier x) → (b : Bool) → q y ≡ b
      → (earlier : List X) → cond b (y ∷ filter q xs) (filter q xs) ≡ earlier ++ x ∷ later → LeftAfter q (y ∷ xs) earlier x
  left_step q y xs x later ih true f [] e = let z : y ≡ x = cc in record { before = []; after = xs; whole = λ i. z i ∷ xs; left = refl }
  left_step q y xs x later ih true f (w ∷ earlier) e =
      let z : y ≡ w = cc in
      let r : LeftAfter q xs earlier x = ih earlier cc in
      let l : filter q r.before ≡ earlier = r.left in
      record { before = y ∷ r.before; after = r.after; whole = ap (λ (l : List X). y ∷ l) r.whole; left = rw f (λ i. z i ∷ l i) }
  left_step q y xs x later ih false f earlier e =
      let r : LeftAfter q xs earlier x = ih earlier e in
      record { before = y ∷ r.before; after = r.after; whole = ap (λ (l : List X). y ∷ l) r.whole; left = rw f r.left }

  left_after : (q : X → Bool) (xs earlier later : List X) (x : X) → filter q xs ≡ earlier ++ x ∷ later → LeftAfter q xs earlier x
  left_after q [] [] later x e = cc
  left_after q [] (y ∷ earlier) later x e = cc
  left_after q (y ∷ xs) earlier later x e = left_step q y xs x later (λ before. left_after q xs before later x) (q y) refl earlier e

  -- what holds of all that fail a test and of all that pass it
  passed_step : (P : X → Type 0) (p : X → Bool) → ((x : X) → p x ≡ false → P x) → (x : X) (xs : List X) → (All P (filter p xs) → All P xs)
      → (b : Bool) → p x ≡ b
      → All P (cond b (x ∷ filter p xs) (filter p xs)) → All P (x ∷ xs)
  passed_step P p h x xs ih true e a = All-cons P x xs (All-head P x (filter p xs) a) (ih (All-tail P x (filter p xs) a))
  passed_step P p h x xs ih false e a = All-cons P x xs (h x e) (ih a)

  all_passed : (P : X → Type 0) (p : X → Bool) → ((x : X) → p x ≡ false → P x) → (xs : List X) → All P (filter p xs) → All P xs
  all_passed P p h [] a = All-nil P
  all_passed P p h (x ∷ xs) a = passed_step P p h x xs (all_passed P p h xs) (p x) refl a

  -- what holds of all that fail a test holds of each of two lists of which the same pass, if it holds of each of one
  all_same : (P : X → Type 0) (p : X → Bool) → ((x : X) → p x ≡ false → P x) → (xs ys : List X) → filter p xs ≡ filter p ys → All P xs
      → All P ys
  all_same P p h xs ys e a = all_passed P p h ys (subst (All P) e (All-filter p P xs a))

-- ---- sections that fit after others

-- a section with this id has a rank
ranked : (encoding : Encoding) (n : ℕ) (g : SectionFrame) → nat_lt 0 (rank_of (kind_of Module n) n) ≡ true → IsSection encoding n g
    → has_rank encoding g ≡ true
ranked encoding n g h (e, i) = cc

-- one without a rank has another id
rankless : (encoding : Encoding) (n : ℕ) (g : SectionFrame) → nat_lt 0 (rank_of (kind_of Module n) n) ≡ true → has_rank encoding g ≡ false
    → IsSection encoding n g → ⊥
rankless encoding n g h f s = grind arith

-- there is a section with this id among others that say the same
some_same : (encoding : Encoding) (n : ℕ) (earlier others : List SectionFrame) → nat_lt 0 (rank_of (kind_of Module n) n) ≡ true
    → SayTheSame encoding earlier others → Any (IsSection encoding n) earlier → Any (IsSection encoding n) others
some_same encoding n earlier others h s a =
    let spared : (g : SectionFrame) → Spares (is_section encoding n) (has_rank encoding) g = search (ranked, section_yes) in
    any_of (is_section encoding n) (IsSection encoding n) (λ g. section_yes encoding n g) others
    (sym (any_left (is_section encoding n) (has_rank encoding) others
    (search spared))
    ∙ (ap (list_any (is_section encoding n)) (sym s) ∙ (any_left (is_section encoding n) (has_rank encoding) earlier
    (search spared) ∙ (search (any_to, yes_section)))))

-- a section fits after sections that say the same
fits_same : (encoding : Encoding) (earlier others : List SectionFrame) (f : SectionFrame) → SayTheSame encoding earlier others
    → FitsAfter encoding earlier f → FitsAfter encoding others f
fits_same encoding earlier others f s a = record {
  ranks = λ l. all_same (λ g. frame_rank encoding g < frame_rank encoding f) (has_rank encoding)
      (λ g e. omega (arith, ltb-false 0 (frame_rank encoding g) e, l)) earlier others s (a.ranks l);
  bodies = λ i. all_same (λ g. IsSection encoding function_id g → frame_count g ≡ frame_count f) (has_rank encoding)
      (λ g e j. absurd (rankless encoding function_id g refl e j)) earlier others s (a.bodies i);
  functions = λ i. elim (a.functions i) [ inl y ↦ inl (search some_same) | inr z ↦ inr z ];
  segments = λ i. all_same (λ g. IsSection encoding data_count_id g → frame_count g ≡ frame_count f) (has_rank encoding)
      (λ g e j. absurd (rankless encoding data_count_id g refl e j)) earlier others s (a.segments i);
}

-- ---- events at another offset

body_events_move : (features at by : ℕ) (bodies : List Sized) → shifted_events by (body_events features at bodies)
    ≡ body_events features (at + by) bodies
body_events_move features at by [] = refl
body_events_move features at by (s ∷ bodies) =
    grind (arith, body_events_move features (at + length (sized_bytes s)) by bodies)

code_events_move : (features at by : ℕ) (f : SectionFrame) (d : CodeDivision f.sized.content)
    → shifted_events by (code_events features at f d) ≡ code_events features (at + by) f d
code_events_move features at by f d = grind (arith, body_events_move)

events_here : (features at by : ℕ) (k : Kind) (f : SectionFrame) (moved : List Event) → KindEvents features (at + by) k f moved
    → (events : List Event) × KindEvents features at k f events × (moved ≡ shifted_events by events)
events_here features at by (whole form) f moved e = grind arith
events_here features at by code f moved (d, e) = (code_events features at f d, (d, refl), e ∙ sym (code_events_move features at by f d))

events_moved : (features at by : ℕ) (k : Kind) (f : SectionFrame) (moved events : List Event) → KindEvents features at k f events → moved
    ≡ shifted_events by events → KindEvents features (at + by) k f moved
events_moved features at by (whole form) f moved events e m = grind arith
events_moved features at by code f moved events (d, e) m = (d, m ∙ (ap (shifted_events by) e ∙ code_events_move features at by f d))

pub frames_read_the_same : FramesReadTheSame
frames_read_the_same encoding earlier others f s = grind (arith, fits_same, events_here, events_moved)

-- ---- an accepted stream without sections that have no rank

-- the sections that stay are matched as all were
matched_left : (encoding : Encoding) (n other : ℕ) (stays : SectionFrame → Bool) (frames : List SectionFrame)
    → nat_lt 0 (rank_of (kind_of Module other) other) ≡ true
    → All (λ f. 0 < frame_rank encoding f → stays f ≡ true) frames → IsMatched encoding n other frames
    → IsMatched encoding n other (filter stays frames)
matched_left encoding n other stays frames h k m =
    let spared : All (Spares (is_section encoding other) stays) frames =
    grind (arith, is_section, ranked, section_yes) in
    let kept : Any (IsSection encoding other) frames → Any (IsSection encoding other) (filter stays frames) = λ a.
    any_of (is_section encoding other) (IsSection encoding other) (λ g. section_yes encoding other g) (filter stays frames)
    (any_left (is_section encoding other) stays frames spared ∙ any_to (is_section encoding other) (IsSection encoding other)
    (λ g. yes_section encoding other g) frames a) in
    All-weaker (λ f. IsSection encoding n f → 0 < frame_count f → Any (IsSection encoding other) frames)
    (λ f. IsSection encoding n f → 0 < frame_count f → Any (IsSection encoding other) (filter stays frames))
    (λ f g i l. kept (g i l)) (filter stays frames) (All-filter stays
    (λ f. IsSection encoding n f → 0 < frame_count f → Any (IsSection encoding other) frames) frames m)

-- a section that stays fits after those that stay before it
order_left : (stream : List ℕ) (a : IsAccepted stream) (stays : SectionFrame → Bool)
    → All (λ f. 0 < frame_rank a.encoding f → stays f ≡ true) a.frames
    → (earlier later : List SectionFrame) (f : SectionFrame) → filter stays a.frames ≡ earlier ++ f ∷ later → FitsAfter a.encoding earlier f
order_left stream a stays k earlier later f e =
    let r : LeftAfter stays a.frames earlier f = left_after stays a.frames earlier later f e in
    let kept : All (λ g. 0 < frame_rank a.encoding g → stays g ≡ true) r.before =
    all_prefix (λ g. 0 < frame_rank a.encoding g → stays g ≡ true) r.before (f ∷ r.after)
    (grind arith) in
    let spared : All (Spares (has_rank a.encoding) stays) r.before =
    All-weaker (λ g. 0 < frame_rank a.encoding g → stays g ≡ true) (Spares (has_rank a.encoding) stays)
    (λ g h t. h (ltb-true 0 (frame_rank a.encoding g) t)) r.before kept in
    let same : SayTheSame a.encoding r.before earlier = grind (arith, filter_twice) in
    grind (arith, fits_same)

pub rankless_may_go : RanklessMayGo
rankless_may_go stream a stays k = (
  record {
    encoding = a.encoding;
    frames = filter stays a.frames;
    whole = refl;
    each = search All-filter;
    order = order_left stream a stays k;
    functions = search matched_left;
    segments = search matched_left;
  },
  refl,
  refl,
)
