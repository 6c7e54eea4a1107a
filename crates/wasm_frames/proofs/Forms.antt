-- What the content of a section is read as, or as much of it as there is.
use Rattle.wasm_frames.proofs.Common.{◌≡◌, ℕ, ◌+◌, true, false, List, length, Result, Ok, Err, ◌∙◌, arith, nat_eq}
use Rattle.wasm_frames.proofs.Common.{Some, None, Option, le-ltb, lt-ltb, length-take-le, FaultAt, fault_at, at_offset, hint_of, number}
use Rattle.wasm_frames.proofs.Common.{name_limit, text_at, unsigned_at, Window, Place, advanced, place, Error, StartContent}
use Rattle.wasm_frames.proofs.Common.{DataCountContent, DataCountDiffer, VarU32, items, index, data_count, Form, custom}
use Rattle.wasm_frames.proofs.Common.{unknown, kind_of, wrong_content, Grammar, SectionContext, check, whole_grammar, Report}
use Rattle.wasm_frames.proofs.Common.{start_section, data_count_section, counted_frame, custom_frame, unknown_frame}
use Rattle.wasm_frames.proofs.Common.{MatchesGrammar, ReadsByGrammar, is_miscounted, sized_window, content_grammar, Kind, ap}
use Rattle.wasm_frames.proofs.Common.{option_to_list}
use Rattle.wasm_frames.proofs.Common.{hint_at, missing_at}
use Rattle.std.proofs.Common.{length-drop}
use Rattle.wasm_base.specs.Window.{KeepsWindow}
use Rattle.wasm_base.specs.declared.fault.Fault.{Fault}
use Rattle.wasm_frames.specs.Contents.{first_of, HasOwnTile, ReadsKind, ReadsForm}
use Rattle.wasm_frames.specs.Frame.{HoldsCount}
use Rattle.wasm_frames.specs.ReadsPart.{ReadsSingleNumber}
use Rattle.wasm_grammar.specs.Content.{wrong_single, whole, code}
use Rattle.wasm_grammar.specs.declared.encoding.Encoding.TheVariants.{Module}
use Rattle.wasm_frames.proofs.Framed.{HasContent, has_content, whole_good, whole_missing}
use Rattle.wasm_frames.proofs.ReadingFields.{report_bytes, report_wrong}
unfoldable use Rattle.wasm_grammar.specs.Grammar.{verdict}
unfoldable use Rattle.wasm_grammar.specs.Waiting.{waiting}

-- ---- the result of a call that reads one number

pub single_refused : (trailing : Fault) (p : Place) (f : FaultAt) → unsigned_at VarU32 p ≡ Err f
    → wrong_single trailing p.offset p.rest (number VarU32 p.rest) ≡ Some f
unfolding unsigned_at
single_refused trailing p f h = grind arith

pub single_trailing : (trailing : Fault) (p : Place) (v : ℕ) (q : Place) (e : Error) → unsigned_at VarU32 p ≡ Ok (v, q) → false
    ≡ nat_eq (length q.rest) 0 → fault_at e ≡ at_offset trailing q.offset → ReadsSingleNumber trailing p (Err e)
unfolding unsigned_at
single_trailing trailing p v q e h l f = grind (arith, lt-ltb, length-drop)

pub single_read : (trailing : Fault) (p : Place) (v : ℕ) (q : Place) → unsigned_at VarU32 p ≡ Ok (v, q) → length q.rest ≡ 0
    → ReadsSingleNumber trailing p (Ok v)
unfolding unsigned_at
single_read trailing p v q h l = grind (arith, le-ltb, length-drop)

-- ---- content by its form

module _ (context : SectionContext) (id end : ℕ) (w : Window) (first : w.position ≡ 0) where
  -- a custom section whose name was read, or refused
  pub custom_read : (name : List ℕ) (reader : Window) → text_at (Some name_limit) (place w) ≡ Ok (name, place reader)
      → KeepsWindow w reader → ReadsForm context custom id end w (Ok (custom_frame name reader))
  unfolding wrong_content text_at
  custom_read name reader is keeps = grind arith

  pub custom_refused : (e : Error) → text_at (Some name_limit) (place w) ≡ Err (fault_at e) → hint_of e ≡ None
      → ReadsForm context custom id end w (Err e)
  unfolding wrong_content text_at
  custom_refused e is hint = grind arith

  -- an unknown section
  pub unknown_read : ReadsForm context unknown id end w (Ok (unknown_frame id w))
  unfolding wrong_content
  unknown_read = grind arith

  -- a section of items whose count was read
  pub items_read : (count : ℕ) (reader : Window) → unsigned_at VarU32 (place w) ≡ Ok (count, place reader) → KeepsWindow w reader
      → false ≡ is_miscounted context.data_counts id count → ReadsForm context items id end w (Ok (counted_frame id count reader))
  unfolding unsigned_at wrong_content
  items_read count reader n keeps m = grind arith

  -- one whose count is not the one that was announced
  pub items_miscounted : (count : ℕ) (q : Place) (e : Error) → unsigned_at VarU32 (place w) ≡ Ok (count, q)
      → true ≡ is_miscounted context.data_counts id count → fault_at e ≡ at_offset DataCountDiffer end → hint_of e ≡ None
      → ReadsForm context items id end w (Err e)
  unfolding unsigned_at wrong_content
  items_miscounted count q e n m f hint = grind arith

  -- one whose count was refused
  pub items_refused : (e : Error) → unsigned_at VarU32 (place w) ≡ Err (fault_at e) → hint_of e ≡ None
      → ReadsForm context items id end w (Err e)
  unfolding unsigned_at wrong_content
  items_refused e n hint = grind arith

  -- content that is one number, or not
  pub start_read : (v : ℕ) → ReadsSingleNumber StartContent (place w) (Ok v)
      → ReadsForm context index id end w (Ok (start_section v w.start (w.start + length w.bytes)))
  unfolding wrong_content
  start_read v n = grind arith

  pub start_refused : (e : Error) → ReadsSingleNumber StartContent (place w) (Err e) → hint_of e ≡ None
      → ReadsForm context index id end w (Err e)
  unfolding wrong_content
  start_refused e n hint = grind arith

  pub data_count_read : (v : ℕ) → ReadsSingleNumber DataCountContent (place w) (Ok v)
      → ReadsForm context data_count id end w (Ok (data_count_section v w.start (w.start + length w.bytes)))
  unfolding wrong_content
  data_count_read v n = grind arith

  pub data_count_refused : (e : Error) → ReadsSingleNumber DataCountContent (place w) (Err e) → hint_of e ≡ None
      → ReadsForm context data_count id end w (Err e)
  unfolding wrong_content
  data_count_refused e n hint = grind arith

-- a window whose count was read, and its reader after the count
pub holds_count : (id count : ℕ) (w reader : Window) → w.position ≡ 0 → kind_of Module id ≡ whole items
    → unsigned_at VarU32 (place w) ≡ Ok (count, place reader) → KeepsWindow w reader → HoldsCount id count reader
holds_count id count w reader first known n keeps = grind arith

-- ---- complete content

-- two checks are one
both : (s : ℕ) (p a : Place) (x y : Option FaultAt) (next : Grammar) (r : Result Report Error)
    → MatchesGrammar s p (check (first_of x y) next) r a → MatchesGrammar s p (check x (check y next)) r a
unfolding verdict waiting
both s p a None y next r m = m
both s p a (Some f) y next r m = m

none_of : (x y : Option FaultAt) → first_of x y ≡ None → (x ≡ None) × (y ≡ None)
none_of x y e = grind arith

-- content that is there is the content of a section
pub whole_read : (context : SectionContext) (form : Form) (id size : ℕ) (p q : Place) (w : Window) (r : Result Report Error)
    → sized_window size p ≡ Ok (w, q) → ReadsForm context form id (p.offset + size) w r
    → ReadsByGrammar (whole_grammar context form id p.offset size) p r q
whole_read context form id size p q w (Ok report) h is =
    let k : HasContent size p w q = has_content size p w q h in
    let (right, counts) = none_of _ _ (rw k.window at is.0) in
    whole_good context form id size p w q report h right counts
    (rw (length-take-le size p.rest k.there) at (rw k.window at is.1))
whole_read context form id size p q w (Err e) h is =
    let k : HasContent size p w q = has_content size p w q h in
    λ s. report_bytes s p size p.offset _ (Err e) q k.there
    (both s (advanced size p) q _ _ _ (Err e) (report_wrong s (advanced size p) _ _ e q (rw k.window at is.0) is.1))

-- ---- content of any kind that is a tile of its own

pub first_place : (size : ℕ) (p q : Place) (w : Window) → sized_window size p ≡ Ok (w, q) → w.position ≡ 0
first_place size p q w h = grind (arith, has_content)

pub content_read : (context : SectionContext) (announced : Option ℕ) (kind : Kind) (id size end : ℕ) (p q : Place) (w : Window)
    (r : Result Report Error) → context.data_counts ≡ option_to_list announced → sized_window size p ≡ Ok (w, q) → end ≡ q.offset
    → ReadsKind announced kind id end w r → ReadsByGrammar (content_grammar context kind id p.offset size) p r q
content_read context announced (whole form) id size end p q w r same h e is =
    let k : HasContent size p w q = has_content size p w q h in
    let at : end ≡ p.offset + size = e ∙ ap (λ (x : Place). x.offset) k.after in
    whole_read context form id size p q w r h (rw at at (is context same))
content_read context announced code id size end p q w r same h e is = absurd is

pub content_missing : (context : SectionContext) (kind : Kind) (id size : ℕ) (p : Place) (e : Error) (a : Place) → HasOwnTile kind id
    → sized_window size p ≡ Err (fault_at e) → hint_of e ≡ hint_at (missing_at size p) (fault_at e).fault
    → ReadsByGrammar (content_grammar context kind id p.offset size) p (Err e) a
content_missing context (whole form) id size p e a is h hint = whole_missing context form id size p e a h hint
content_missing context code id size p e a is h hint = absurd is
