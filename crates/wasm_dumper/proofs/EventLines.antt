-- Each line of an event is one line of the first level, and begins with its text in a listing.
use Rattle.wasm_dumper.proofs.Common.{◌≡◌, ℕ, zero, suc, List, [], ◌∷◌, ◌++◌, Some, None, refl, sym, ap, ◌∙◌, length, Option, append_assoc}
use Rattle.wasm_dumper.proofs.Common.{option_map, Report, Base, shown_line, numbered_line, numbers_in_line, Counts}
use Rattle.std.proofs.Common.{◌≤◌, IfSome, slice_get, lit≤, codes}
use Rattle.wasm_dumper.specs.Chosen.{numbered_text, section_words, BeginAlike}
use Rattle.wasm_grammar.specs.Ids.{names, name_of}
use Rattle.wasm_lines.specs.Listing.{report_text}
use Rattle.wasm_output.specs.Numbers.{blank_numbers}
use Rattle.wasm_output.specs.Tree.{IsFirst}
use Rattle.wasm_output.proofs.ForCallers.{blank_before}

-- ---- the text of a line, and what comes after it

pub begin_alike : (r : Report) → BeginAlike r
begin_alike r = (refl, λ b. refl, λ b c. refl)

-- the line of an event is its text, and a line feed
pub text_fed : (b : Base) (c : Counts) (r : Report) → numbered_text b c r [] ++ codes "\n" ≡ numbered_line b c r
text_fed b c r =
    let front = report_text b r in
    let numbers = numbers_in_line c r in
    append_assoc front (section_words r ++ blank_numbers numbers []) (codes "\n")
    ∙ (ap (λ (x : List ℕ). front ++ x) (append_assoc (section_words r) (blank_numbers numbers []) (codes "\n"))
    ∙ ap (λ (x : List ℕ). front ++ (section_words r ++ x)) (sym (blank_before numbers (codes "\n"))))

-- the line of an event is one line of the first level, with its numbers after it
pub line_is_first : (b : Base) (c : Counts) (r : Report) → IsFirst (numbered_line b c r) (shown_line b r) (numbers_in_line c r)
line_is_first b c r = record {
  front = report_text b r ++ section_words r;
  parts = sym (append_assoc (report_text b r) (section_words r) (blank_numbers (numbers_in_line c r) (codes "\n")));
  outlines = sym (append_assoc (report_text b r) (section_words r) (codes "\n"));
}

-- ---- the names of sections are short

abbrev AreShort : List (List ℕ) → Type 0
AreShort [] = Unit {0}
AreShort (x ∷ xs) = (length x ≤ 9) × AreShort xs

short_at : (xs : List (List ℕ)) (i : ℕ) (name : List ℕ) → AreShort xs → slice_get xs i ≡ Some name → length name ≤ 9
short_at [] i name s e = cc
short_at (x ∷ xs) zero name s e = let same : x ≡ name = cc in rw (sym same) s.0
short_at (x ∷ xs) (suc i) name s e = short_at xs i name s.1 e

name_is_short : (id : ℕ) (name : List ℕ) → name_of id ≡ Some name → length name ≤ 9
name_is_short id name e = short_at names id name (
  lit≤ tt,
  (
    lit≤ tt,
    (
      lit≤ tt,
      (
        lit≤ tt,
        (
          lit≤ tt,
          (
            lit≤ tt,
            (
              lit≤ tt,
              (
                lit≤ tt,
                (lit≤ tt, (lit≤ tt, (lit≤ tt, (lit≤ tt, (lit≤ tt, (lit≤ tt, tt)))))),
              ),
            ),
          ),
        ),
      ),
    ),
  ),
) e

pub short_if_any : {X : Type 0} (view : X → List ℕ) (id : ℕ) (name : Option X) → option_map view name ≡ name_of id
    → IfSome name (λ n. length (view n) ≤ 9)
short_if_any view id None e = tt
short_if_any view id (Some n) e = name_is_short id (view n) (sym e)
