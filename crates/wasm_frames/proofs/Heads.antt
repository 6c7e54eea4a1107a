-- What comes before the content of a section, or of a body.
use Rattle.wasm_frames.proofs.Common.{◌≡◌, ℕ, ◌+◌, ◌-◌, ◌^◌, ◌≤◌, ◌<◌, true, false, List, [], ◌∷◌, ◌&&◌, length, Result, Ok, Err}
use Rattle.wasm_frames.proofs.Common.{refl, sym, ap, subst, ◌∙◌, arith, le-ltb, lt-ltb, le-leb, nat_le, nat_lt, Some, None, fault_at}
use Rattle.wasm_frames.proofs.Common.{at_offset, hint_of, hint_at, magic, agree, unsigned_at, Place, advanced, Error, UnexpectedEof}
use Rattle.wasm_frames.proofs.Common.{MagicAtSection, OutOfOrder, TrailingCode, VarU32, when, Ending, Grammar, ltb-false, kind_of}
use Rattle.wasm_frames.proofs.Common.{after_length, section_grammar, body_grammar}
use Rattle.wasm_frames.proofs.Common.{MatchesGrammar, ParserState, known_context, bytes, accept, code_entry}
use Rattle.wasm_base.specs.Name.{byte_at, first_of}
use Rattle.wasm_base.specs.declared.fault.Fault.TheVariants.{MalformedSectionId, SectionTooLarge}
use Rattle.wasm_frames.specs.Heads.{ReadsHead, ReadsHeadAfterId, ReadsHeadAfterLength, ReadsBodyHead}
use Rattle.wasm_frames.specs.declared.parts.SectionHead.{SectionHead}
use Rattle.wasm_grammar.specs.Grammar.{after_id, body_of, section_start}
use Rattle.wasm_grammar.specs.Waiting.{is_magic_begun}
use Rattle.wasm_grammar.specs.KindInCode.{kind_is}
use Rattle.wasm_grammar.specs.declared.sections.SectionKind.{SectionKind}
unfoldable use Rattle.wasm_grammar.specs.Cut.{cut}
use Rattle.wasm_frames.proofs.Cuts.{cut_wrong, cut_right, cut_number, cut_no_number}
use Rattle.wasm_frames.proofs.Framed.{is_disordered, sized_large, sized_disordered, sized_ordered, framed_bad, framed_no_size, framed_sized}
use Rattle.wasm_frames.proofs.Framed.{good_id, section_magic, section_framed}
use Rattle.wasm_frames.proofs.Bodies.{a_body, body_no_size, body_past, body_sized, its_size, no_body_left}
use Rattle.wasm_frames.proofs.ReadingFields.{ReadNumber, read_number, report_right}

-- ---- after the length

-- content that would end past the top of the offsets
pub head_large : (p : ParserState) (id field size : ℕ) (here : Place) (e : Error) → 2 ^ 64 - 1 < here.offset + size
    → fault_at e ≡ record { fault = SectionTooLarge; offset = field; number = Some size } → hint_of e ≡ None
    → ReadsHeadAfterLength p id field size here (Err e)
head_large p id field size here e l f hint = (
  sized_large (known_context p) (kind_of p.encoding id) id field size here e here l f hint,
  λ begun. cut_wrong _ _ here.rest (fault_at e) (rw (lt-ltb (2 ^ 64 - 1) (here.offset + size) l) (ap Some (sym f))),
)

module _ (p : ParserState) (kind : SectionKind) (id field size : ℕ) (here : Place)
    (known : kind_is kind ≡ kind_of p.encoding id) where
  fits_top : here.offset + size ≤ 2 ^ 64 - 1
      → when (nat_lt (2 ^ 64 - 1) (here.offset + size)) (record { fault = SectionTooLarge; offset = field; number = Some size }) ≡ None
  fits_top l = rw (le-ltb (2 ^ 64 - 1) (here.offset + size) l) refl

  -- one that ranks no higher than one before it
  pub head_disordered : (e : Error) → here.offset + size ≤ 2 ^ 64 - 1 → is_disordered (known_context p) (kind_is kind) id ≡ true
      → fault_at e ≡ at_offset OutOfOrder here.offset → hint_of e ≡ None → ReadsHeadAfterLength p id field size here (Err e)
  head_disordered e l k f hint =
      let d : is_disordered (known_context p) (kind_of p.encoding id) id ≡ true = rw known at k in (
        sized_disordered (known_context p) (kind_of p.encoding id) id field size here e here l d f hint,
        λ begun. cut_right _ _ here.rest (fits_top l) ∙ cut_wrong _ _ here.rest (fault_at e) (rw d (ap Some (sym f))),
      )

  -- one that is in its place
  pub head_ordered : here.offset + size ≤ 2 ^ 64 - 1 → is_disordered (known_context p) (kind_is kind) id ≡ false
      → ReadsHeadAfterLength p id field size here (Ok (record { kind = kind; id = id; size = size }))
  head_ordered l k =
      let d : is_disordered (known_context p) (kind_of p.encoding id) id ≡ false = rw known at k in
      let o = cut_right _ _ here.rest (fits_top l) in
      let r = cut_right (when (is_disordered (known_context p) (kind_of p.encoding id) id) (at_offset OutOfOrder here.offset)) _ here.rest
      (rw d refl) in
      record {
        forward = omega arith;
        features = refl;
        known = known;
        fits = omega (arith, l);
        next = λ result end m.
            sized_ordered (known_context p) (kind_of p.encoding id) id field size here result end l d (rw known at m);
        cuts = λ begun. rw known (o ∙ r);
      }

-- ---- after the id

module _ (p : ParserState) (start id : ℕ) (here : Place) where
  -- an id of 128 or more
  pub id_malformed : (e : Error) (a : Place) → 128 ≤ id → fault_at e ≡ at_offset MalformedSectionId start → hint_of e ≡ None
      → ReadsHeadAfterId p start id here (Err e) a
  id_malformed e a l f hint = (
    framed_bad (known_context p) start id here e a l f hint,
    λ begun. cut_wrong _ _ here.rest (fault_at e) (rw (le-leb 128 id l) (ap Some (sym f))),
  )

  -- a good id, where no length is read
  pub id_alone : (e : Error) (a : Place) → id < 128 → start + 1 ≡ here.offset → unsigned_at VarU32 here ≡ Err (fault_at e)
      → hint_of e ≡ hint_at 1 (fault_at e).fault → ReadsHeadAfterId p start id here (Err e) a
  id_alone e a l o n hint = (
    framed_no_size (known_context p) start id here e a l o n hint,
    λ begun. cut_right _ _ here.rest (good_id start id l) ∙ cut_no_number _ _ here (fault_at e) n,
  )

  -- a good id and a length
  pub id_sized : (after : Place) (size : ℕ) (r : Result SectionHead Error) → id < 128 → start + 1 ≡ here.offset
      → unsigned_at VarU32 here ≡ Ok (size, after) → ReadsHeadAfterLength p id here.offset size after r
      → ReadsHeadAfterId p start id here r after
  id_sized after size r l o n h =
      let m : ReadNumber here size after = read_number here size after n in
      let at : start + 1 + m.used ≡ after.offset = omega (arith, o, ap (λ (x : Place). x.offset) m.after) in
      let c : cut (after_id (known_context p) start id) here.rest
      ≡ cut (after_length (known_context p) (kind_of p.encoding id) id here.offset after.offset size) after.rest =
      cut_right _ _ here.rest (good_id start id l) ∙ (cut_number (start + 1) _ here after size m.used m.reads m.after
      ∙ (λ i. cut (after_length (known_context p) (kind_of p.encoding id) id (o i) (at i) size) after.rest)) in
      by_head r h c
    where
      by_head : (r : Result SectionHead Error) → ReadsHeadAfterLength p id here.offset size after r
          → cut (after_id (known_context p) start id) here.rest
          ≡ cut (after_length (known_context p) (kind_of p.encoding id) id here.offset after.offset size) after.rest
          → ReadsHeadAfterId p start id here r after
      by_head (Ok head) h c = record {
        forward = omega (arith, ap (λ (x : Place). x.offset) (read_number here size after n).after, h.forward);
        features = h.features ∙ ap (λ (x : Place). x.features) (read_number here size after n).after;
        known = h.known;
        fits = h.fits;
        next = λ result end m. framed_sized (known_context p) start id here after size result end l o n (h.next result end m);
        cuts = λ begun. c ∙ h.cuts begun;
      }
      by_head (Err e) h c =
          (framed_sized (known_context p) start id here after size (Err e) after l o n h.0, λ begun. c ∙ h.1 begun)

-- ---- a section

-- bytes that begin no header are cut as they are after the id
id_cut : (xs : List ℕ) (o : ℕ) (e : Ending) (next : ℕ → Grammar) (p q : Place) (id : ℕ) → xs ≡ p.rest
    → false ≡ (agree xs magic && nat_le 4 (length xs)) → is_magic_begun xs ≡ false → first_of p xs ≡ Ok (id, q)
    → cut (section_start o e next) xs ≡ cut (next id) q.rest
unfolding cut
id_cut [] o e next p q id z m b f = cc
id_cut (x ∷ xs) o e next p q id z m b f = grind arith

-- the magic begins no part that is cut
magic_cut : (xs : List ℕ) (o : ℕ) (e : Ending) (next : ℕ → Grammar) → true ≡ (agree xs magic && nat_le 4 (length xs))
    → cut (section_start o e next) xs ≡ None
unfolding cut
magic_cut [] o e next m = refl
magic_cut (x ∷ xs) o e next m = grind arith

byte_after_first : (xs : List ℕ) (p q : Place) (id : ℕ) → first_of p xs ≡ Ok (id, q) → q ≡ advanced 1 p
byte_after_first [] p q id b = cc
byte_after_first (x ∷ xs) p q id b =
    let same : (x, advanced 1 p) ≡ (id, q) = cc in sym (ap (λ (w : ℕ × Place). w.1) same)

byte_after : (p q : Place) (id : ℕ) → byte_at p ≡ Ok (id, q) → q ≡ advanced 1 p
byte_after p q id b = byte_after_first p.rest p q id b

-- a second header
pub head_magic : (p : ParserState) (here : Place) (e : Error) (a : Place) → true
    ≡ (agree here.rest magic && nat_le 4 (length here.rest)) → 0 < length here.rest
    → fault_at e ≡ at_offset MagicAtSection here.offset → hint_of e ≡ None → ReadsHead p here (Err e) a
unfolding section_grammar
head_magic p here e a m l f hint = (section_magic p here e a m l f hint, λ begun. magic_cut here.rest _ _ _ m)

-- a section after its id
pub head_framed : (p : ParserState) (here q : Place) (id : ℕ) (r : Result SectionHead Error) (a : Place) → false
    ≡ (agree here.rest magic && nat_le 4 (length here.rest)) → byte_at here ≡ Ok (id, q)
    → ReadsHeadAfterId p here.offset id q r a → ReadsHead p here r a
unfolding section_grammar
head_framed p here q id (Ok head) a m b h = record {
  forward = omega (arith, ap (λ (x : Place). x.offset) (byte_after here q id b), h.forward);
  features = h.features ∙ ap (λ (x : Place). x.features) (byte_after here q id b);
  known = h.known;
  fits = h.fits;
  next = λ result end n. section_framed p here q id result end m b (h.next result end n);
  cuts = λ begun. id_cut here.rest _ _ _ here q id refl m begun b ∙ h.cuts refl;
}
head_framed p here q id (Err e) a m b h =
    (section_framed p here q id (Err e) a m b h.0, λ begun. id_cut here.rest _ _ _ here q id refl m begun b ∙ h.1 refl)

-- ---- a body

-- its size, where a body remains
pub size_alone : (p : ParserState) (here : Place) (e : Error) (a : Place) → 0 < p.bodies → unsigned_at VarU32 here ≡ Err (fault_at e)
    → hint_of e ≡ hint_at 1 (fault_at e).fault → ReadsBodyHead p here (Err e) a
size_alone p here e a l n hint = (
  body_no_size p.bodies p.code_bytes here e a l n hint,
  rw (a_body p.bodies p.code_bytes here.offset l) (cut_no_number here.offset _ here (fault_at e) n),
)

pub none_remains : (p : ParserState) (here : Place) (e : Error) (a : Place) → p.bodies ≡ 0 → fault_at e ≡ at_offset TrailingCode here.offset
    → hint_of e ≡ None → ReadsBodyHead p here (Err e) a
unfolding body_grammar cut
none_remains p here e a z f hint = (no_body_left p.bodies p.code_bytes here e a z f hint, rw z refl)

module _ (p : ParserState) (here after : Place) (size : ℕ) (l : 0 < p.bodies) (n : unsigned_at VarU32 here ≡ Ok (size, after)) where
  abbrev m : ReadNumber here size after
  m = its_size p.bodies p.code_bytes here after size l n

  width : after.offset ≡ here.offset + m.used
  width = ap (λ (x : Place). x.offset) m.after

  abbrev after_at : ℕ → Grammar
  after_at o = bytes size o (λ content. accept (code_entry content))

  -- as it is cut after its size
  size_cut : cut (body_grammar p.bodies p.code_bytes here.offset) here.rest ≡ cut (body_of here.offset p.code_bytes size m.used) after.rest
  size_cut = ap (λ (g : Grammar). cut g here.rest) (a_body p.bodies p.code_bytes here.offset l)
      ∙ cut_number here.offset (λ size width. body_of here.offset p.code_bytes size width) here after size m.used m.reads m.after

  pub size_past : (e : Error) (a : Place) → nat_lt p.code_bytes (after.offset - here.offset + size) ≡ true
      → fault_at e ≡ at_offset UnexpectedEof here.offset → hint_of e ≡ None → ReadsBodyHead p here (Err e) a
  size_past e a past f hint =
      let w : nat_lt p.code_bytes (m.used + size) ≡ true = grind (arith, width) in (
        body_past p.bodies p.code_bytes here after size l n e a past f hint,
        size_cut ∙ cut_wrong _ _ after.rest (fault_at e) (rw w (ap Some (sym f))),
      )

  pub size_within : nat_lt p.code_bytes (after.offset - here.offset + size) ≡ false → ReadsBodyHead p here (Ok size) after
  size_within past =
      let w : nat_lt p.code_bytes (m.used + size) ≡ false = grind (arith, width) in record {
        forward = omega (arith, width);
        features = ap (λ (x : Place). x.features) m.after;
        within = omega (arith, width, ltb-false _ _ w);
        next = λ result end r. body_sized p.bodies p.code_bytes here after size l n false result end past
            (λ s. report_right s (advanced m.used here) None (after_at (here.offset + m.used)) result end refl
            (subst (λ (x : Place). MatchesGrammar s x (after_at x.offset) result end) m.after (r s)));
        cuts = size_cut ∙ (cut_right (when (nat_lt p.code_bytes (m.used + size)) (at_offset UnexpectedEof here.offset))
            (after_at (here.offset + m.used)) after.rest (rw w refl) ∙ (λ i. cut (after_at (sym width i)) after.rest));
      }
