-- What is in a code section: its head and its bodies.
use Rattle.wasm_frames.proofs.Common.{◌≡◌, ℕ, ◌+◌, ◌<◌, ◌≤◌, Bool, true, false, length, Result, Ok, Err, sym, ap, subst, ◌∙◌, arith}
use Rattle.wasm_frames.proofs.Common.{nat_eq, nat_lt, zero, suc, ◌-◌, not, ◌&&◌, take, option_to_list, Some, None, length-take-le}
use Rattle.wasm_frames.proofs.Common.{list_all, FaultAt, fault_at, at_offset, hint_of, hint_at, missing_at, unsigned_at, Window, Place}
use Rattle.wasm_frames.proofs.Common.{advanced, window_over, Error, UnexpectedEof, FunctionCodeDiffer, CodeWithoutFunction, TrailingCode}
use Rattle.wasm_frames.proofs.Common.{VarU32, when, Grammar, SectionContext, accept, check, u32_field, bytes, body_grammar, code_start}
use Rattle.wasm_frames.proofs.Common.{Report, MatchesGrammar, ReadsByGrammar, sized_window}
use Rattle.std.specs.List.{list_any}
use Rattle.wasm_grammar.specs.Grammar.{wrong_count, code_grammar, body_of}
use Rattle.wasm_grammar.specs.Reading.{code_entry}
use Rattle.wasm_frames.specs.Heads.{after_size}
use Rattle.wasm_frames.proofs.Framed.{HasContent, has_content, too_few}
use Rattle.wasm_frames.proofs.ReadingFields.{report_bytes, report_missing, report_number, report_no_number, report_wrong, report_right}
use Rattle.wasm_frames.proofs.ReadingFields.{report_whole, report_stops, ReadNumber, read_number}
use Rattle.wasm_grammar.specs.Grammar

-- ---- the head of a code section

-- what may come after its count
abbrev counted_grammar : SectionContext → (offset size count width : ℕ) → Grammar
counted_grammar context offset size count width =
    check (when (nat_lt size width) (at_offset UnexpectedEof offset)) (
    check (wrong_count context offset count) (
    accept (Grammar.code_start count width (size - width))))

-- a count that is not read
pub code_no_count : (context : SectionContext) (size : ℕ) (p : Place) (e : Error) (a : Place) → unsigned_at VarU32 p ≡ Err (fault_at e)
    → hint_of e ≡ hint_at 1 (fault_at e).fault → ReadsByGrammar (code_grammar context p.offset size) p (Err e) a
code_no_count context size p e a h hint = λ s. report_no_number s p (counted_grammar context p.offset size) e a h hint

-- where a count is read
module _ (context : SectionContext) (size : ℕ) (p q : Place) (count : ℕ) (h : unsigned_at VarU32 p ≡ Ok (count, q)) where
  its_count : ReadNumber p count q
  its_count = read_number p count q h

  after_count : q.offset ≡ p.offset + its_count.used
  after_count = ap (λ (x : Place). x.offset) its_count.after

  -- a count that passes the section's end
  pub code_short : (e : Error) (a : Place) → p.offset + size < q.offset → fault_at e ≡ at_offset UnexpectedEof p.offset → hint_of e ≡ None
      → ReadsByGrammar (code_grammar context p.offset size) p (Err e) a
  code_short e a l f hint =
      let w : when (nat_lt size its_count.used) (at_offset UnexpectedEof p.offset) ≡ Some (fault_at e) = grind (arith, after_count) in
      λ s. report_number s p _ _ (Err e) a count its_count.used its_count.reads (report_wrong s _ _ _ e a w hint)

  -- a count that lies in the section, and that of the functions
  counted_right : (r : Result Report Error) (a : Place) → q.offset ≤ p.offset + size
      → ((s : ℕ) → MatchesGrammar s (advanced its_count.used p) (check (wrong_count context p.offset count)
      (accept (Grammar.code_start count its_count.used (size - its_count.used)))) r a)
      → ReadsByGrammar (code_grammar context p.offset size) p r a
  counted_right r a l next =
      let w : when (nat_lt size its_count.used) (at_offset UnexpectedEof p.offset) ≡ None = grind (arith, after_count) in
      λ s. report_number s p _ _ r a count its_count.used its_count.reads (report_right s _ _ _ r a w (next s))

  pub code_wrong : (e : Error) (a : Place) → q.offset ≤ p.offset + size → wrong_count context p.offset count ≡ Some (fault_at e)
      → hint_of e ≡ None → ReadsByGrammar (code_grammar context p.offset size) p (Err e) a
  code_wrong e a l w hint = counted_right (Err e) a l (λ s. report_wrong s _ _ _ e a w hint)

  -- a head
  pub code_read : (report : Report) → q.offset ≤ p.offset + size → wrong_count context p.offset count ≡ None
      → report ≡ code_start count p.offset (p.offset + size) (p.offset + size - q.offset)
      → ReadsByGrammar (code_grammar context p.offset size) p (Ok report) q
  code_read report l w same = counted_right (Ok report) q l (λ s. report_right s _ _ _ (Ok report) q w
      (report_whole s _ _ report q its_count.after (grind (arith, after_count, same))))

-- what is wrong with a count, by two tests
pub counts_differ : (context : SectionContext) (offset count : ℕ) (f : FaultAt) → true ≡ not (list_all (nat_eq count) context.functions) → f
    ≡ at_offset FunctionCodeDiffer offset → wrong_count context offset count ≡ Some f
counts_differ context offset count f d e = rw (← d) (ap Some (sym e))

pub no_function : (context : SectionContext) (offset count : ℕ) (f : FaultAt) → false ≡ not (list_all (nat_eq count) context.functions)
    → true ≡ (list_any (nat_lt 0) (option_to_list (Some count)) && nat_eq (length context.functions) 0)
    → f ≡ at_offset CodeWithoutFunction offset → wrong_count context offset count ≡ Some f
no_function context offset count f d n e = grind arith

pub right_count : (context : SectionContext) (offset count : ℕ) → false ≡ not (list_all (nat_eq count) context.functions) → false
    ≡ (list_any (nat_lt 0) (option_to_list (Some count)) && nat_eq (length context.functions) 0) → wrong_count context offset count ≡ None
right_count context offset count d n = grind arith

-- ---- a body

-- a body remains
pub a_body : (bodies code_bytes offset : ℕ) → 0 < bodies → body_grammar bodies code_bytes offset
    ≡ u32_field offset (λ size width. body_of offset code_bytes size width)
unfolding body_grammar
a_body bodies code_bytes offset l = grind arith

body_there : (bodies code_bytes : ℕ) (p : Place) (r : Result Report Error) (a : Place) → 0 < bodies
    → ReadsByGrammar (u32_field p.offset (λ size width. body_of p.offset code_bytes size width)) p r a
    → ReadsByGrammar (body_grammar bodies code_bytes p.offset) p r a
body_there bodies code_bytes p r a l h = subst (λ (g : Grammar). ReadsByGrammar g p r a) (sym (a_body bodies code_bytes p.offset l)) h

-- no body remains
pub no_body_left : (bodies code_bytes : ℕ) (p : Place) (e : Error) (a : Place) → bodies ≡ 0 → fault_at e ≡ at_offset TrailingCode p.offset
    → hint_of e ≡ None → ReadsByGrammar (body_grammar bodies code_bytes p.offset) p (Err e) a
unfolding body_grammar
no_body_left zero code_bytes p e a z f hint = λ s. report_stops s p (at_offset TrailingCode p.offset) e a f hint
no_body_left (suc n) code_bytes p e a z f hint = absurd (omega arith)

-- a size that is not read
pub body_no_size : (bodies code_bytes : ℕ) (p : Place) (e : Error) (a : Place) → 0 < bodies → unsigned_at VarU32 p ≡ Err (fault_at e)
    → hint_of e ≡ hint_at 1 (fault_at e).fault → ReadsByGrammar (body_grammar bodies code_bytes p.offset) p (Err e) a
body_no_size bodies code_bytes p e a l h hint = search (body_there, report_no_number)

-- whether a body passes its section, by the same numbers
pub past_same : {l code_bytes b q a p : ℕ} {found past : Bool} (size : ℕ) → l ≡ code_bytes → b ≡ q → a ≡ p → found ≡ nat_lt l (b - a + size)
    → found ≡ past → nat_lt code_bytes (q - p + size) ≡ past
past_same size x y z e f = (λ i. nat_lt (sym x i) (sym y i - sym z i + size)) ∙ (sym e ∙ f)

-- where a size is read, and a body remains
module _ (bodies code_bytes : ℕ) (p q : Place) (size : ℕ) (l : 0 < bodies) (h : unsigned_at VarU32 p ≡ Ok (size, q)) where
  pub its_size : ReadNumber p size q
  its_size = read_number p size q h

  -- by whether the body passes its section
  pub body_sized : (past : Bool) (r : Result Report Error) (a : Place) → nat_lt code_bytes (q.offset - p.offset + size) ≡ past
      → ((s : ℕ) → MatchesGrammar s (advanced its_size.used p) (check (when past (at_offset UnexpectedEof p.offset))
      (bytes size (p.offset + its_size.used) (λ content. accept (Grammar.code_entry content)))) r a)
      → ReadsByGrammar (body_grammar bodies code_bytes p.offset) p r a
  body_sized past r a e next =
      let n : q.offset - p.offset + size ≡ its_size.used + size = omega (arith, ap (λ (x : Place). x.offset) its_size.after) in
      body_there bodies code_bytes p r a l
      (λ s. report_number s p _ _ r a size its_size.used its_size.reads (rw (rw n at e) (next s)))

  -- a body that passes its section
  pub body_past : (e : Error) (a : Place) → nat_lt code_bytes (q.offset - p.offset + size) ≡ true
      → fault_at e ≡ at_offset UnexpectedEof p.offset → hint_of e ≡ None
      → ReadsByGrammar (body_grammar bodies code_bytes p.offset) p (Err e) a
  body_past e a past f hint = body_sized true (Err e) a past (λ s. report_wrong s _ _ _ e a (ap Some (sym f)) hint)

-- ---- a body after its size

-- its bytes, or too few
pub body_given : (size : ℕ) (p q : Place) (w : Window) → sized_window size p ≡ Ok (w, q)
    → ReadsByGrammar (after_size size p) p (Ok (code_entry w)) q
body_given size p q w h =
    let c : HasContent size p w q = has_content size p w q h in
    let n : length (take size p.rest) ≡ size = length-take-le size p.rest c.there in
    let said : code_entry w ≡ code_entry (window_over p.features (p.offset + size - length (take size p.rest)) (take size p.rest)) =
    grind arith in
    search (report_bytes, report_whole)

pub body_lacking : (size : ℕ) (p : Place) (e : Error) (a : Place) → sized_window size p ≡ Err (fault_at e)
    → hint_of e ≡ hint_at (missing_at size p) (fault_at e).fault → ReadsByGrammar (after_size size p) p (Err e) a
body_lacking size p e a h hint = let t = too_few size p (fault_at e) h in λ s. report_missing s p size _ _ e a t.0 t.1 hint
