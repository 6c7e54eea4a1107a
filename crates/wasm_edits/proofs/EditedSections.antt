-- An accepted stream is accepted after edits.
use Rattle.wasm_edits.proofs.Common.{◌≡◌, ◌⊎◌, inl, inr, Some, ℕ, ◌<◌, Bool, true, false, List, [], ◌∷◌, ◌++◌, refl, ap, sym, ◌∙◌, arith}
use Rattle.wasm_edits.proofs.Common.{subst}
use Rattle.wasm_edits.proofs.Common.{subst₂, length-append, eqb-true, All, filter, flat_map, SectionFrame, frame_bytes}
use Rattle.wasm_edits.proofs.Common.{IsFrame, Encoding, frame_stays}
use Rattle.std.proofs.Common.{cond, map, nat_eq, nat_lt}
use Rattle.std.proofs.lemmas.Bool.{and_parts}
use Rattle.std.proofs.lemmas.List.{length-map}
use Rattle.std.proofs.lemmas.List.Elements.{All-append, All-head, All-tail, All-cons, All-nil, All-map, All-weaker, filter-append}
use Rattle.std.proofs.Math.ListN.{get_or-append, get_or-map}
use Rattle.std.specs.List.{Any}
use Rattle.wasm_edits.proofs.Encodings.{section_formed}
use Rattle.wasm_edits.specs.Edits.{CanBeMade, after_edit, after_edits, section_is_named, is_other_than, name_is, replaced_by}
use Rattle.wasm_edits.specs.Encoded.{Fits, frame_of}
use Rattle.wasm_edits.specs.declared.edits.Edit.{Edit}
use Rattle.wasm_edits.specs.declared.edits.Edit.TheVariants.{Append, Keep, Remove, Replace}
use Rattle.wasm_edits.specs.declared.encoding.NewSection.{NewSection}
use Rattle.wasm_edits.specs.Fates.{stays_by}
use Rattle.wasm_base.specs.Name.{name_limit, name}
use Rattle.wasm_grammar.proofs.PlainLists.{each_of, split_last}
use Rattle.wasm_grammar.specs.Accepted.{header_bytes, frame_count, frame_rank, IsAccepted, IsMatched, IsSection, FitsAfter}
use Rattle.wasm_grammar.specs.FrameEvents.{has_rank, SayTheSame}
use Rattle.wasm_grammar.specs.Ids.{custom_id, code_id, data_id, data_count_id, function_id}
use Rattle.wasm_grammar.specs.declared.encoding.Encoding.TheVariants.{Module, Component}
use Rattle.wasm_frames.proofs.ForCallers.{frames_read_the_same, rankless_may_go}

-- These sections, after a header of this encoding, are an accepted stream.
pub record AreSections (encoding : Encoding) (frames : List SectionFrame) : Type 0 where
  pub each : All (IsFrame encoding) frames
  pub order : (earlier later : List SectionFrame) (f : SectionFrame) → frames ≡ earlier ++ f ∷ later → FitsAfter encoding earlier f
  pub functions : IsMatched encoding function_id code_id frames
  pub segments : IsMatched encoding data_count_id data_id frames

pub sections_of : (stream : List ℕ) (a : IsAccepted stream) → AreSections a.encoding a.frames
sections_of stream a = record { each = a.each; order = a.order; functions = a.functions; segments = a.segments }

abbrev pub accepted_with : (stream : List ℕ) (encoding : Encoding) (frames : List SectionFrame)
    → stream ≡ header_bytes encoding ++ flat_map frame_bytes frames → AreSections encoding frames
    → (a : IsAccepted stream) × (a.encoding ≡ encoding) × (a.frames ≡ frames)
accepted_with stream encoding frames e s = (
  record {
    encoding = encoding;
    frames = frames;
    whole = e;
    each = s.each;
    order = s.order;
    functions = s.functions;
    segments = s.segments;
  },
  refl,
  refl,
)

-- ---- sections that stay

custom_rank : (encoding : Encoding) (f : SectionFrame) → f.id ≡ custom_id → frame_rank encoding f ≡ 0
custom_rank Module f e = rw e refl
custom_rank Component f e = rw e refl

ranked_stays : (keeps : List ℕ → Bool) (encoding : Encoding) (f : SectionFrame) → 0 < frame_rank encoding f → (b : Bool)
    → nat_eq f.id custom_id ≡ b → frame_stays keeps f ≡ true
ranked_stays keeps encoding f r true e =
    absurd (omega (arith, r, custom_rank encoding f (eqb-true f.id custom_id e)))
ranked_stays keeps encoding f r false e = rw e refl

pub sections_kept : (keeps : List ℕ → Bool) (encoding : Encoding) (frames : List SectionFrame) → AreSections encoding frames
    → AreSections encoding (filter (frame_stays keeps) frames)
sections_kept keeps encoding frames s =
    let stream : List ℕ = header_bytes encoding ++ flat_map frame_bytes frames in
    let stay : (f : SectionFrame) → 0 < frame_rank encoding f → frame_stays keeps f ≡ true = λ f r.
    ranked_stays keeps encoding f r (nat_eq f.id custom_id) refl in
    let (b, e, f) = rankless_may_go stream (accepted_with stream encoding frames refl s).0 (frame_stays keeps)
    (each_of (λ f. 0 < frame_rank encoding f → frame_stays keeps f ≡ true) stay frames) in
    subst₂ AreSections e f (sections_of _ b)

-- ---- one more section

-- a custom section may follow any
fits_anywhere : (encoding : Encoding) (earlier : List SectionFrame) (f : SectionFrame) → f.id ≡ custom_id → FitsAfter encoding earlier f
fits_anywhere Module earlier f e = grind arith
fits_anywhere Component earlier f e = grind arith

order_more : (encoding : Encoding) (frames earlier later : List SectionFrame) (new f : SectionFrame) → new.id ≡ custom_id
    → ((earlier later : List SectionFrame) (f : SectionFrame) → frames ≡ earlier ++ f ∷ later → FitsAfter encoding earlier f)
    → ((earlier ≡ frames) × (f ≡ new)) ⊎ ((more : List SectionFrame) × (frames ≡ earlier ++ f ∷ more)) → FitsAfter encoding earlier f
order_more encoding frames earlier later new f e order (inl a) = fits_anywhere encoding earlier f (ap (λ (g : SectionFrame). g.id) a.1 ∙ e)
order_more encoding frames earlier later new f e order (inr a) = order earlier a.0 f a.1

any_more : (P : SectionFrame → Type 0) (frames : List SectionFrame) (new : SectionFrame) → Any P frames → Any P (frames ++ new ∷ [])
any_more P frames new (k, x, lt, at, p) = (
  k,
  x,
  omega (arith, length-append frames (new ∷ []), lt),
  get_or-append frames (new ∷ []) x k lt ∙ at,
  p,
)

-- what a section needs is still there
matched_more : (encoding : Encoding) (id other : ℕ) (frames : List SectionFrame) (new : SectionFrame) → new.id ≡ custom_id → 0 < id
    → IsMatched encoding id other frames → IsMatched encoding id other (frames ++ new ∷ [])
matched_more encoding id other frames new e some m =
    let Needs : SectionFrame → Type 0 =
    λ f. IsSection encoding id f → 0 < frame_count f → Any (IsSection encoding other) (frames ++ new ∷ []) in
    All-append Needs frames (new ∷ [])
    (λ k d l s c. any_more (IsSection encoding other) frames new (m k d l s c))
    (All-cons Needs new [] (λ s c. absurd (omega (arith, e, s.1))) (All-nil Needs))

sections_more : (encoding : Encoding) (frames : List SectionFrame) (new : SectionFrame) → IsFrame encoding new → new.id ≡ custom_id
    → AreSections encoding frames → AreSections encoding (frames ++ new ∷ [])
sections_more encoding frames new good e s = record {
  each = All-append (IsFrame encoding) frames (new ∷ []) s.each (All-cons (IsFrame encoding) new [] good (All-nil (IsFrame encoding)));
  order = λ earlier later f split. order_more encoding frames earlier later new f e s.order (split_last frames earlier later new f split);
  functions = matched_more encoding function_id code_id frames new e (omega arith) s.functions;
  segments = matched_more encoding data_count_id data_id frames new e (omega arith) s.segments;
}

-- ---- sections that are replaced

-- what an element of a list was, of which each element was changed
record Changed (h : SectionFrame → SectionFrame) (frames earlier : List SectionFrame) (f : SectionFrame) : Type 0 where
  before : List SectionFrame
  was : SectionFrame
  after : List SectionFrame
  whole : frames ≡ before ++ was ∷ after
  first : map h before ≡ earlier
  now : h was ≡ f

one_more : (h : SectionFrame → SectionFrame) (x g : SectionFrame) (frames earlier : List SectionFrame) (f : SectionFrame) → h x ≡ g
    → Changed h frames earlier f → Changed h (x ∷ frames) (g ∷ earlier) f
one_more h x g frames earlier f same c = record {
  before = x ∷ c.before;
  was = c.was;
  after = c.after;
  whole = ap (λ (fs : List SectionFrame). x ∷ fs) c.whole;
  first = ap (λ (fs : List SectionFrame). h x ∷ fs) c.first ∙ ap (λ (y : SectionFrame). y ∷ earlier) same;
  now = c.now;
}

changed : (h : SectionFrame → SectionFrame) (frames earlier later : List SectionFrame) (f : SectionFrame)
    → map h frames ≡ earlier ++ f ∷ later → Changed h frames earlier f
changed h [] [] later f e = cc
changed h [] (g ∷ earlier) later f e = cc
changed h (x ∷ frames) [] later f e =
    let same : h x ≡ f = cc in
    record { before = []; was = x; after = frames; whole = refl; first = refl; now = same }
changed h (x ∷ frames) (g ∷ earlier) later f e =
    let same : h x ≡ g = cc in
    let rest : map h frames ≡ earlier ++ f ∷ later = cc in
    one_more h x g frames earlier f same (changed h frames earlier later f rest)

named_is_custom : (text : List ℕ) (f : SectionFrame) → section_is_named text f ≡ true → f.id ≡ custom_id
named_is_custom text f e =
    eqb-true f.id custom_id (and_parts (nat_eq f.id custom_id) (name_is text (name (Some name_limit) f.sized.content)) e).0

module _ (s : NewSection) (encoding : Encoding) where
  -- a section is custom, and so is the new one; or it is as it was
  abbrev CustomOrSame : SectionFrame → Type 0
  CustomOrSame f = ((f.id ≡ custom_id) × (replaced_by s f ≡ frame_of s)) ⊎ (replaced_by s f ≡ f)

  custom_or_same : (f : SectionFrame) → CustomOrSame f
  custom_or_same f = by (section_is_named s.name.now f) refl
    where
      by : (b : Bool) → section_is_named s.name.now f ≡ b → CustomOrSame f
      by true e = inl (named_is_custom s.name.now f e, ap (λ (b : Bool). cond b (frame_of s) f) e)
      by false e = inr (ap (λ (b : Bool). cond b (frame_of s) f) e)

  rankless : (f : SectionFrame) (frames : List SectionFrame) → f.id ≡ custom_id
      → filter (has_rank encoding) (f ∷ frames) ≡ filter (has_rank encoding) frames
  rankless f frames e = let r : has_rank encoding f ≡ false = ap (nat_lt 0) (custom_rank encoding f e) in
      ap (λ (b : Bool). cond b (f ∷ filter (has_rank encoding) frames) (filter (has_rank encoding) frames)) r

  says_step : (f : SectionFrame) (xs ys : List SectionFrame) → SayTheSame encoding xs ys → CustomOrSame f
      → SayTheSame encoding (f ∷ xs) (replaced_by s f ∷ ys)
  says_step f xs ys h (inl (i, e)) =
      rankless f xs i ∙ (h ∙ sym (ap (λ (g : SectionFrame). filter (has_rank encoding) (g ∷ ys)) e ∙ rankless (frame_of s) ys refl))
  says_step f xs ys h (inr e) =
      filter-append (has_rank encoding) (f ∷ []) xs
      ∙ (ap (λ (zs : List SectionFrame). filter (has_rank encoding) (f ∷ []) ++ zs) h
      ∙ (sym (filter-append (has_rank encoding) (f ∷ []) ys)
      ∙ ap (λ (g : SectionFrame). filter (has_rank encoding) (g ∷ ys)) (sym e)))

  -- they say the same to later ones
  says_the_same : (frames : List SectionFrame) → SayTheSame encoding frames (map (replaced_by s) frames)
  says_the_same [] = refl
  says_the_same (f ∷ frames) = says_step f frames (map (replaced_by s) frames) (says_the_same frames) (custom_or_same f)

  fits_here : (frames earlier : List SectionFrame) (f : SectionFrame) → (c : Changed (replaced_by s) frames earlier f)
      → FitsAfter encoding c.before c.was → CustomOrSame c.was → FitsAfter encoding earlier f
  fits_here frames earlier f c h (inl (i, e)) = fits_anywhere encoding earlier f (ap (λ (g : SectionFrame). g.id) (sym c.now ∙ e))
  fits_here frames earlier f c h (inr e) =
      let there : FitsAfter encoding (map (replaced_by s) c.before) c.was =
      (frames_read_the_same encoding c.before (map (replaced_by s) c.before) c.was (says_the_same c.before)).0 h in
      subst₂ (λ (first : List SectionFrame) (g : SectionFrame). FitsAfter encoding first g) c.first (sym e ∙ c.now) there

  section_stays : (id : ℕ) (f : SectionFrame) → 0 < id → IsSection encoding id f → CustomOrSame f → IsSection encoding id (replaced_by s f)
  section_stays id f some i (inl (z, e)) = absurd (omega (arith, some, z, i.1))
  section_stays id f some i (inr e) = subst (IsSection encoding id) (sym e) i

  section_was : (id : ℕ) (f : SectionFrame) → 0 < id → IsSection encoding id (replaced_by s f) → CustomOrSame f → replaced_by s f ≡ f
  section_was id f some i (inl (z, e)) =
      let n : (replaced_by s f).id ≡ custom_id = ap (λ (g : SectionFrame). g.id) e in
      absurd (omega (arith, some, n, i.1))
  section_was id f some i (inr e) = e

  any_replaced : (id : ℕ) (frames : List SectionFrame) → 0 < id → Any (IsSection encoding id) frames
      → Any (IsSection encoding id) (map (replaced_by s) frames)
  any_replaced id frames some (k, x, lt, at, p) = (
    k,
    replaced_by s x,
    omega (arith, lt, length-map frames (replaced_by s)),
    get_or-map (replaced_by s) frames k x ∙ ap (replaced_by s) at,
    section_stays id x some p (custom_or_same x),
  )

  matched_replaced : (id other : ℕ) (frames : List SectionFrame) → 0 < id → 0 < other → IsMatched encoding id other frames
      → IsMatched encoding id other (map (replaced_by s) frames)
  matched_replaced id other frames some more m =
      let Needs : SectionFrame → Type 0 = λ f. IsSection encoding id f → 0 < frame_count f → Any (IsSection encoding other) frames in
      let Has : SectionFrame → Type 0 =
      λ f. IsSection encoding id f → 0 < frame_count f → Any (IsSection encoding other) (map (replaced_by s) frames) in
      let has : (f : SectionFrame) → Needs f → Has (replaced_by s f) =
      λ f needs i count. let e : replaced_by s f ≡ f = section_was id f some i (custom_or_same f) in
      any_replaced other frames more
      (needs (subst (IsSection encoding id) e i) (subst (λ (g : SectionFrame). 0 < frame_count g) e count)) in
      All-map Has (replaced_by s) frames (All-weaker Needs (λ f. Has (replaced_by s f)) has frames m)

  frame_here : (f : SectionFrame) → Fits s → IsFrame encoding f → CustomOrSame f → IsFrame encoding (replaced_by s f)
  frame_here f fits i (inl (z, e)) = subst (IsFrame encoding) (sym e) (section_formed encoding s fits)
  frame_here f fits i (inr e) = subst (IsFrame encoding) (sym e) i

  sections_replaced : (frames : List SectionFrame) → Fits s → AreSections encoding frames
      → AreSections encoding (map (replaced_by s) frames)
  sections_replaced frames fits a = record {
    each = All-map (IsFrame encoding) (replaced_by s) frames (All-weaker (IsFrame encoding) (λ f. IsFrame encoding (replaced_by s f))
        (λ f i. frame_here f fits i (custom_or_same f)) frames a.each);
    order = λ earlier later f split.
        let c = changed (replaced_by s) frames earlier later f split in
        fits_here frames earlier f c (a.order c.before c.after c.was c.whole) (custom_or_same c.was);
    functions = matched_replaced function_id code_id frames (omega arith) (omega arith) a.functions;
    segments = matched_replaced data_count_id data_id frames (omega arith) (omega arith) a.segments;
  }

-- ---- all edits

sections_after : (edit : Edit) (encoding : Encoding) (frames : List SectionFrame) → CanBeMade edit → AreSections encoding frames
    → AreSections encoding (after_edit edit frames)
sections_after (Keep keep) encoding frames fits a = sections_kept (stays_by keep) encoding frames a
sections_after (Remove name) encoding frames fits a = sections_kept (is_other_than name.now) encoding frames a
sections_after (Append section) encoding frames fits a =
    sections_more encoding frames (frame_of section) (section_formed encoding section fits) refl a
sections_after (Replace section) encoding frames fits a = sections_replaced section encoding frames fits a

-- the sections of an accepted stream are accepted after edits
pub sections_edited : (edits : List Edit) (encoding : Encoding) (frames : List SectionFrame) → All CanBeMade edits
    → AreSections encoding frames → AreSections encoding (after_edits edits frames)
sections_edited [] encoding frames fits a = a
sections_edited (edit ∷ edits) encoding frames fits a =
    sections_edited edits encoding (after_edit edit frames) (All-tail CanBeMade edit edits fits)
    (sections_after edit encoding frames (All-head CanBeMade edit edits fits) a)
