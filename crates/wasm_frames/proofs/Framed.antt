-- What is at the start of a section, and what is read there.
use Rattle.wasm_frames.proofs.Common.{◌≡◌, ℕ, ◌+◌, ◌^◌, ◌<◌, ◌≤◌, Bool, true, false, List, [], ◌∷◌, length, Result, Ok, Err, refl, sym, ap}
use Rattle.wasm_frames.proofs.Common.{subst₂, arith, nat_eq, nat_lt, ◌-◌, not, ◌&&◌, take, drop, Some, None, le-ltb, lt-ltb, nat_le, le-leb}
use Rattle.wasm_frames.proofs.Common.{length-take-le, FaultAt, fault_at, at_offset, hint_of, magic, agree, hint_at, missing_at}
use Rattle.wasm_frames.proofs.Common.{unsigned_at, Window, Place, advanced, window_over, Error, UnexpectedEof}
use Rattle.wasm_frames.proofs.Common.{MagicAtSection, OutOfOrder, VarU32, when, Form, Kind, kind_of, wrong_content}
use Rattle.wasm_frames.proofs.Common.{SectionContext, whole_grammar, wrong_data, content_grammar, after_length, verdict, section_grammar}
use Rattle.wasm_frames.proofs.Common.{section_report, waiting, Report, ReadsByGrammar, MatchesVerdict, ParserState, known_context}
use Rattle.wasm_frames.proofs.Common.{sized_window}
use Rattle.std.proofs.lemmas.Bool.{lt-leb}
use Rattle.std.specs.List.{starts_with}
use Rattle.wasm_base.specs.Name.{first_of, byte_at}
use Rattle.wasm_base.specs.declared.fault.Fault.TheVariants.{MalformedSectionId, SectionTooLarge}
use Rattle.wasm_grammar.specs.Content.{rank_of}
use Rattle.wasm_grammar.specs.Grammar.{after_id}
use Rattle.wasm_frames.specs.ReadsPart.{HintsAs, ReadsNextSection}
use Rattle.wasm_frames.proofs.ReadingFields.{report_at, report_bytes, report_missing, report_number, report_no_number, report_wrong}
use Rattle.wasm_frames.proofs.ReadingFields.{report_right, report_whole, ReadNumber, read_number}

-- after an id of 128 or more
pub framed_bad : (context : SectionContext) (start id : ℕ) (p : Place) (e : Error) (a : Place) → 128 ≤ id → fault_at e
    ≡ at_offset MalformedSectionId start → hint_of e ≡ None → ReadsByGrammar (after_id context start id) p (Err e) a
framed_bad context start id p e a h f hint = λ s. report_wrong s p _ _ e a (rw (le-leb 128 id h) (ap Some (sym f))) hint

pub good_id : (start id : ℕ) → id < 128 → when (nat_le 128 id) (at_offset MalformedSectionId start) ≡ None
good_id start id h = rw (lt-leb 128 id h) refl

module _ (context : SectionContext) (start id : ℕ) (p : Place) where
  -- after a good id, where no length is read
  pub framed_no_size : (e : Error) (a : Place) → id < 128 → start + 1 ≡ p.offset → unsigned_at VarU32 p ≡ Err (fault_at e)
      → hint_of e ≡ hint_at 1 (fault_at e).fault → ReadsByGrammar (after_id context start id) p (Err e) a
  framed_no_size e a h o n hint = λ s. report_right s p _ _ (Err e) a (good_id start id h) (rw o (report_no_number s p _ e a n hint))

  -- after a good id and a length
  pub framed_sized : (q : Place) (v : ℕ) (r : Result Report Error) (a : Place) → id < 128 → start + 1 ≡ p.offset
      → unsigned_at VarU32 p ≡ Ok (v, q) → ReadsByGrammar (after_length context (kind_of context.encoding id) id p.offset q.offset v) q r a
      → ReadsByGrammar (after_id context start id) p r a
  framed_sized q v r a h o n next =
      let m : ReadNumber p v q = read_number p v q n in
      λ s. report_right s p _ _ r a (good_id start id h)
      (rw o (report_number s p p.offset _ r a v m.used m.reads (rw m.after at (next s))))

-- whether a section of this kind and id may not come after others, for its rank
abbrev pub is_disordered : SectionContext → Kind → ℕ → Bool
is_disordered context kind id = nat_lt 0 (rank_of kind id) && not (context.may_follow (rank_of kind id))

module _ (context : SectionContext) (kind : Kind) (id field size : ℕ) (p : Place) (e : Error) (a : Place) where
  -- a content that would end past the top of the offsets
  pub sized_large : 2 ^ 64 - 1 < p.offset + size → fault_at e ≡ record { fault = SectionTooLarge; offset = field; number = Some size }
      → hint_of e ≡ None → ReadsByGrammar (after_length context kind id field p.offset size) p (Err e) a
  sized_large h f hint = λ s. report_wrong s p _ _ e a (rw (lt-ltb (2 ^ 64 - 1) (p.offset + size) h) (ap Some (sym f))) hint

  -- one that ranks no higher than one before it
  pub sized_disordered : p.offset + size ≤ 2 ^ 64 - 1 → is_disordered context kind id ≡ true → fault_at e ≡ at_offset OutOfOrder p.offset
      → hint_of e ≡ None → ReadsByGrammar (after_length context kind id field p.offset size) p (Err e) a
  sized_disordered h k f hint =
      λ s. report_right s p _ _ (Err e) a (rw (le-ltb (2 ^ 64 - 1) (p.offset + size) h) refl)
      (report_wrong s p _ _ e a (rw k (ap Some (sym f))) hint)

-- one that is in its place
pub sized_ordered : (context : SectionContext) (kind : Kind) (id field size : ℕ) (p : Place) (r : Result Report Error) (a : Place)
    → p.offset + size ≤ 2 ^ 64 - 1 → is_disordered context kind id ≡ false
    → ReadsByGrammar (content_grammar context kind id p.offset size) p r a
    → ReadsByGrammar (after_length context kind id field p.offset size) p r a
sized_ordered context kind id field size p r a h k next =
    λ s. report_right s p _ _ r a (rw (le-ltb (2 ^ 64 - 1) (p.offset + size) h) refl) (report_right s p _ _ r a (rw k refl) (next s))

pub too_few : (size : ℕ) (p : Place) (f : FaultAt) → sized_window size p ≡ Err f → (length p.rest < size)
    × (f ≡ at_offset UnexpectedEof p.offset)
unfolding sized_window
too_few size p f h = grind arith

-- content that is
pub record HasContent (size : ℕ) (p : Place) (w : Window) (q : Place) : Type 0 where
  pub there : size ≤ length p.rest
  pub window : w ≡ window_over p.features p.offset (take size p.rest)
  pub after : q ≡ advanced size p

pub has_content : (size : ℕ) (p : Place) (w : Window) (q : Place) → sized_window size p ≡ Ok (w, q) → HasContent size p w q
unfolding sized_window
has_content size p w q h = grind arith

-- truncated content
pub whole_missing : (context : SectionContext) (kind : Form) (id size : ℕ) (p : Place) (e : Error) (a : Place) → sized_window size p
    ≡ Err (fault_at e) → hint_of e ≡ hint_at (missing_at size p) (fault_at e).fault
    → ReadsByGrammar (whole_grammar context kind id p.offset size) p (Err e) a
whole_missing context kind id size p e a h hint = let t = too_few _ _ _ h in λ s. report_missing _ _ _ _ _ _ _ t.0 t.1 hint

-- good content, and its report
pub whole_good : (context : SectionContext) (kind : Form) (id size : ℕ) (p : Place) (w : Window) (q : Place) (report : Report)
    → sized_window size p ≡ Ok (w, q) → wrong_content kind p.offset (take size p.rest) ≡ None → wrong_data context kind id (p.offset + size)
    (take size p.rest) ≡ None → report ≡ section_report p.features p.offset (p.offset + size) kind id (take size p.rest)
    → ReadsByGrammar (whole_grammar context kind id p.offset size) p (Ok report) q
whole_good context kind id size p w q report h good counts same =
    grind (arith, has_content, length-take-le, report_bytes, report_right, report_whole)

-- a magic where a section may start
pub section_magic : (p : ParserState) (here : Place) (e : Error) (a : Place) → true ≡ (agree here.rest magic && nat_le 4 (length here.rest))
    → 0 < length here.rest → fault_at e ≡ at_offset MagicAtSection here.offset → hint_of e ≡ None → ReadsNextSection p here (Err e) a
unfolding section_grammar verdict waiting
section_magic p here e a m l f hint = grind arith

-- a section after its id
framed_at : (xs : List ℕ) (context : SectionContext) (p q : Place) (id : ℕ) (r : Result Report Error) (a : Place) → p.rest ≡ xs → false
    ≡ (agree xs magic && nat_le 4 (length xs)) → first_of p xs ≡ Ok (id, q)
    → ReadsByGrammar (after_id context p.offset id) q r a → (s : ℕ) → MatchesVerdict s p (verdict (section_grammar context p.offset) xs) r a
unfolding section_grammar verdict
framed_at [] context p q id r a z m b next s = cc
framed_at (x ∷ xs) context p q id r a z m b next s =
    let y : (x, advanced 1 p) ≡ (id, q) = cc in
    let i : x ≡ id = ap (λ (w : ℕ × Place). w.0) y in
    let j : advanced 1 p ≡ q = ap (λ (w : ℕ × Place). w.1) y in
    let k : drop 1 p.rest ≡ xs = ap (drop 1) z in
    let here : MatchesVerdict s (advanced 1 p) (verdict (after_id context p.offset x) (drop 1 p.rest)) r a =
    subst₂ (λ (w : ℕ) (v : Place). MatchesVerdict s v (verdict (after_id context p.offset w) v.rest) r a) (sym i) (sym j) (next s).0 in
    let there : MatchesVerdict s (advanced 1 p) (verdict (after_id context p.offset x) xs) r a =
    grind arith in
    grind (arith, report_at)

framed_hints : (xs : List ℕ) (context : SectionContext) (p q : Place) (id : ℕ) (r : Result Report Error) → p.rest ≡ xs → agree xs magic
    ≡ false → first_of p xs ≡ Ok (id, q)
    → HintsAs (waiting (after_id context p.offset id) q.rest) r → HintsAs (waiting (section_grammar context p.offset) xs) r
unfolding section_grammar waiting
framed_hints xs context p q id r z m b next = grind arith

pub section_framed : (p : ParserState) (here q : Place) (id : ℕ) (r : Result Report Error) (a : Place) → false
    ≡ (agree here.rest magic && nat_le 4 (length here.rest)) → byte_at here ≡ Ok (id, q)
    → ReadsByGrammar (after_id (known_context p) here.offset id) q r a → ReadsNextSection p here r a
section_framed p here q id r a m b next = (
  framed_at here.rest (known_context p) here q id r a refl m b next,
  λ begun. framed_hints here.rest (known_context p) here q id r refl
      (grind arith) b (next 0).1,
)

begins_with : (first bytes : List ℕ) → starts_with nat_eq bytes first ≡ (agree bytes first && nat_le (length first) (length bytes))
begins_with [] [] = refl
begins_with [] (x ∷ bytes) = sym (le-leb 0 (length (x ∷ bytes)) (omega arith))
begins_with (m ∷ first) [] = sym (lt-leb (length (m ∷ first)) 0 (omega arith))
begins_with (m ∷ first) (x ∷ bytes) = grind (arith, begins_with first bytes)

pub begins_with_magic : (bytes : List ℕ) → starts_with nat_eq bytes magic ≡ (agree bytes magic && nat_le 4 (length bytes))
begins_with_magic bytes = begins_with magic bytes
