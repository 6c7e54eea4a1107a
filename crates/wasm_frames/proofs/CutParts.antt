-- A part whose end is missing, by what was read of it.
use Rattle.wasm_frames.proofs.Common.{◌≡◌, ℕ, ◌+◌, ◌^◌, ◌≤◌, ◌<◌, Bool, true, false, List, [], ◌∷◌, length, Ok, Err, refl}
use Rattle.wasm_frames.proofs.Common.{arith, le-leb, nat_eq, nat_le, Some, None, Option, is_some, option_to_list, FaultAt, fault_at}
use Rattle.wasm_frames.proofs.Common.{number, Window, Place, Error, VarU32, Form, Kind, items, index}
use Rattle.wasm_frames.proofs.Common.{data_count, custom, unknown, wrong_content, Ending, Grammar, Shape, SectionContext}
use Rattle.wasm_frames.proofs.Common.{accept, check, whole_grammar, wrong_data, content_grammar, section, section_grammar, Report}
use Rattle.wasm_frames.proofs.Common.{section_report, asked_at_section, ParserState, known_context}
use Rattle.std.proofs.lemmas.Bool.{lt-leb}
use Rattle.wasm_base.specs.Number.{Number, read, bad, short}
use Rattle.wasm_base.specs.Window.{whole_window}
use Rattle.wasm_frames.specs.Contents.{first_of, ReadsKind}
use Rattle.wasm_frames.specs.Cuts.{CutsBy, kind_grows}
use Rattle.wasm_frames.specs.Heads.{after_size}
use Rattle.wasm_frames.specs.SkipNext.{CanPass}
use Rattle.wasm_grammar.specs.Content.{whole, code}
use Rattle.wasm_grammar.specs.Cut.{cut_content, form_grows, may_grow}
unfoldable use Rattle.wasm_grammar.specs.Cut.{cut}
use Rattle.wasm_grammar.specs.Grammar.{code_grammar, section_start}
unfoldable use Rattle.wasm_grammar.specs.Grammar.{verdict}
use Rattle.wasm_grammar.specs.Reading.{code_entry as body_report}
use Rattle.wasm_grammar.specs.Waiting.{is_magic_begun}

-- ---- where no part is cut

-- where a header may have begun
pub begun_cut : (xs : List ℕ) (o : ℕ) (e : Ending) (next : ℕ → Grammar) → true ≡ is_some (asked_at_section xs)
    → cut (section_start o e next) xs ≡ None
unfolding cut
begun_cut [] o e next a = refl
begun_cut (x ∷ xs) o e next a = grind arith

pub not_begun : (xs : List ℕ) → false ≡ is_some (asked_at_section xs) → is_magic_begun xs ≡ false
not_begun [] a = cc
not_begun (x ∷ xs) a = grind arith

-- a part that is there
checks_cut : (x y : Option FaultAt) (s : Shape) (xs : List ℕ) → cut (check x (check y (accept s))) xs ≡ None
unfolding cut
checks_cut None None s xs = refl
checks_cut None (Some f) s xs = refl
checks_cut (Some f) y s xs = refl

-- content that is not there, by what is wrong with it
wrong_verdict : (o size : ℕ) (x y : Option FaultAt) (s : Shape) (f : FaultAt) → first_of x y ≡ Some f
    → cut_content o size (verdict (check x (check y (accept s))) []) ≡ None
unfolding verdict
wrong_verdict o size None None s f w = cc
wrong_verdict o size None (Some g) s f w = refl
wrong_verdict o size (Some g) y s f w = refl

right_verdict : (o size : ℕ) (x y : Option FaultAt) (s : Shape) → may_grow s ≡ true → first_of x y ≡ None
    → cut_content o size (verdict (check x (check y (accept s))) []) ≡ Some (record { shape = s; offset = o; size = size })
unfolding verdict
right_verdict o size None None s g w = rw g refl
right_verdict o size None (Some f) s g w = cc
right_verdict o size (Some f) y s g w = cc

single_verdict : (o size : ℕ) (x y : Option FaultAt) (s : Shape) → may_grow s ≡ false
    → cut_content o size (verdict (check x (check y (accept s))) []) ≡ None
unfolding verdict
single_verdict o size None None s g = rw g refl
single_verdict o size None (Some f) s g = refl
single_verdict o size (Some f) y s g = refl

module _ (context : SectionContext) (form : Form) (id o size : ℕ) (xs : List ℕ) where
  pub complete_cut : size ≤ length xs → cut (whole_grammar context form id o size) xs ≡ None
  unfolding cut
  complete_cut l = rw (le-leb size (length xs) l) (checks_cut _ _ _ _)

  pub wrong_cut : (f : FaultAt) → length xs < size → first_of (wrong_content form o xs) (wrong_data context form id (o + size) xs) ≡ Some f
      → cut (whole_grammar context form id o size) xs ≡ None
  unfolding cut
  wrong_cut f l w = rw (lt-leb size (length xs) l) (wrong_verdict o size _ _ _ f w)

  pub right_cut : length xs < size → form_grows form ≡ true
      → first_of (wrong_content form o xs) (wrong_data context form id (o + size) xs) ≡ None
      → cut (whole_grammar context form id o size) xs ≡ Some (record { shape = section form id xs; offset = o; size = size })
  unfolding cut
  right_cut l g w = rw (lt-leb size (length xs) l) (right_verdict o size _ _ (section form id xs) g w)

  pub single_cut : form_grows form ≡ false → cut (whole_grammar context form id o size) xs ≡ None
  unfolding cut
  single_cut g = by_length (nat_le size (length xs)) refl
    where
      by_length : (b : Bool) → nat_le size (length xs) ≡ b → cut (whole_grammar context form id o size) xs ≡ None
      by_length true e = rw e (checks_cut _ _ _ _)
      by_length false e = rw e (single_verdict o size _ _ (section form id xs) g)

pub code_cut : (context : SectionContext) (o size : ℕ) (xs : List ℕ) (n : Number) → number VarU32 xs ≡ n
    → cut (code_grammar context o size) xs ≡ None
unfolding cut
code_cut context o size xs (read v k) e = rw e (checks_cut _ _ _ _)
code_cut context o size xs (bad f k) e = rw e refl
code_cut context o size xs short e = rw e refl

-- ---- after a head, by the kind of section

module _ (context : SectionContext) (id size : ℕ) (here : Place) where
  pub never_cut : (kind : Kind) → kind_grows kind ≡ false → CutsBy (content_grammar context kind id here.offset size) here None
  never_cut (whole form) g = rw (single_cut context form id here.offset size here.rest g) refl
  never_cut code g = rw (code_cut context here.offset size here.rest _ refl) refl

  pub not_cut : (kind : Kind) → kind_grows kind ≡ true → size ≤ length here.rest
      → CutsBy (content_grammar context kind id here.offset size) here None
  not_cut (whole form) g l = rw (complete_cut context form id here.offset size here.rest l) refl
  not_cut code g l = cc

  pub content_cut : (announced : Option ℕ) (kind : Kind) (end : ℕ) (w : Window) (report : Report) → kind_grows kind ≡ true
      → context.data_counts ≡ option_to_list announced → length here.rest < size → end ≡ here.offset + size → w ≡ whole_window here
      → ReadsKind announced kind id end w (Ok report) → CutsBy (content_grammar context kind id here.offset size) here (Some (report, end))
  content_cut announced (whole form) end w report g same l e at is =
      let m = rw (at, e) at (is context same) in
      rw (right_cut context form id here.offset size here.rest l g m.0) (rw (m.1, e) refl)
  content_cut announced code end w report g same l e at is = absurd is

  pub content_not_cut : (announced : Option ℕ) (kind : Kind) (end : ℕ) (w : Window) (x : Error)
      → context.data_counts ≡ option_to_list announced → length here.rest < size → end ≡ here.offset + size → w ≡ whole_window here
      → ReadsKind announced kind id end w (Err x) → CutsBy (content_grammar context kind id here.offset size) here None
  content_not_cut announced (whole form) end w x same l e at is =
      let m = rw (at, e) at (is context same) in
      rw (wrong_cut context form id here.offset size here.rest (fault_at x) l m.0) refl
  content_not_cut announced code end w x same l e at is = absurd is

-- ---- a body after its size

pub size_not_cut : (size : ℕ) (here : Place) → size ≤ length here.rest → CutsBy (after_size size here) here None
unfolding cut
size_not_cut size here l = rw (le-leb size (length here.rest) l) refl

pub size_cut : (size end : ℕ) (here : Place) → length here.rest < size → end ≡ here.offset + size
    → CutsBy (after_size size here) here (Some (body_report (whole_window here), end))
unfolding cut verdict
size_cut size end here l e = rw (lt-leb size (length here.rest) l, e) refl

-- ---- what is passed

module _ (p : ParserState) (end : ℕ) where
  form_passes : (features from to id : ℕ) (form : Form) (content : List ℕ) → form_grows form ≡ true
      → nat_eq (p.bodies + p.code_bytes) 0 ≡ true → p.offset ≤ end → end < 2 ^ 64
      → CanPass p (section_report features from to form id content) end
  form_passes features from to id custom content g closed l fits = grind arith
  form_passes features from to id items content g closed l fits = grind arith
  form_passes features from to id unknown content g closed l fits = grind arith
  form_passes features from to id index content g closed l fits = cc
  form_passes features from to id data_count content g closed l fits = cc

  pub section_passes : (announced : Option ℕ) (kind : Kind) (id : ℕ) (w : Window) (report : Report) → kind_grows kind ≡ true
      → nat_eq (p.bodies + p.code_bytes) 0 ≡ true → p.offset ≤ end → end < 2 ^ 64 → ReadsKind announced kind id end w (Ok report)
      → CanPass p report end
  section_passes announced (whole form) id w report g closed l fits is =
      let m = is (record (known_context p) { data_counts = option_to_list announced }) refl in
      rw m.1 (form_passes w.features w.start (w.start + length w.bytes) id form w.bytes g closed l fits)
  section_passes announced code id w report g closed l fits is = absurd is

  pub body_passes : (w : Window) → p.offset ≤ end → end ≤ p.offset + p.code_bytes → p.offset + p.code_bytes < 2 ^ 64
      → CanPass p (body_report w) end
  body_passes w l m fits = record {
    after = l;
    fits = omega arith;
    where_sections_are = λ h i. cc;
    first_fields = refl;
  }

-- ---- at a head

-- where a header may have begun
pub begun_not_cut : (context : SectionContext) (here : Place) → true ≡ is_some (asked_at_section here.rest)
    → CutsBy (section_grammar context here.offset) here None
unfolding section_grammar
begun_not_cut context here a = rw (begun_cut here.rest here.offset _ _ a) refl

-- what has a fault, and what is cut as something else
pub fault_not_cut : (g : Grammar) (here : Place) → cut g here.rest ≡ None → CutsBy g here None
fault_not_cut g here e = rw e refl

pub cut_as : (g h : Grammar) (here there : Place) (result : Option (Report × ℕ)) → here.features ≡ there.features
    → cut g here.rest ≡ cut h there.rest → CutsBy h there result → CutsBy g here result
cut_as g h here there result same e m = rw (e, same) m
