-- What the tiles before a section say to it, reported of the frames before it.
use Rattle.wasm_grammar.proofs.Common.{arith, ◌≡◌, Bool, true, false, cond, List, [], ◌∷◌, ◌++◌, refl, ℕ, length, ◌<◌, not, ◌&&◌, sym, ◌∙◌}
use Rattle.wasm_grammar.proofs.Common.{nat_lt, nat_eq, eqb-true, eq-eqb, append-nil, append_assoc, and_comm, common_steps, list_all-append}
use Rattle.wasm_grammar.proofs.Common.{All, list_all, list_any, SectionFrame, frame_count, frame_rank, IsSection, SectionContext, code_id}
use Rattle.wasm_grammar.proofs.Common.{data_count_id, data_id, function_id, Encoding, Module, Component}
use Rattle.std.proofs.Common.{◌||◌}
use Rattle.std.proofs.Math.Bool.{or_comm}
use Rattle.std.proofs.Math.Dec.{eqb-suc-zero}
use Rattle.std.proofs.lemmas.List.Folds.{list_any-append}
use Rattle.wasm_grammar.proofs.PlainLists.{all_to}

-- whether a frame is a module's section with this id
abbrev pub is_section : Encoding → ℕ → SectionFrame → Bool
is_section Module n f = nat_eq f.id n
is_section Component n f = false

-- its count, if it is
abbrev pub one_count : Encoding → ℕ → SectionFrame → List ℕ
one_count encoding n f = cond (is_section encoding n f) (frame_count f ∷ []) []

-- the counts of the sections with this id, the last one first
abbrev pub counts_of : Encoding → ℕ → List SectionFrame → List ℕ
counts_of encoding n [] = []
counts_of encoding n (f ∷ fs) = counts_of encoding n fs ++ one_count encoding n f

-- these are the tiles' words for these frames
pub record Knows (encoding : Encoding) (frames : List SectionFrame) (p : SectionContext) : Type 0 where
  pub named : p.encoding ≡ encoding
  pub ranks : (r : ℕ) → 0 < r → p.may_follow r ≡ list_all (λ (f : SectionFrame). nat_lt (frame_rank encoding f) r) frames
  pub functions : p.functions ≡ counts_of encoding function_id frames
  pub codes : p.codes ≡ counts_of encoding code_id frames
  pub datas : p.datas ≡ counts_of encoding data_id frames
  pub data_counts : p.data_counts ≡ counts_of encoding data_count_id frames

-- the test for a section is right
pub section_yes : (encoding : Encoding) (n : ℕ) (f : SectionFrame) → is_section encoding n f ≡ true → IsSection encoding n f
section_yes encoding n f e = grind (arith, eqb-true)

-- a module's section with this id passes the test
pub yes_section : (encoding : Encoding) (n : ℕ) (f : SectionFrame) → IsSection encoding n f → is_section encoding n f ≡ true
yes_section encoding n f e = grind (arith, eq-eqb)

-- one more frame after others puts its count first
pub counts_push : (encoding : Encoding) (n : ℕ) (fs : List SectionFrame) (f : SectionFrame) → counts_of encoding n (fs ++ f ∷ [])
    ≡ one_count encoding n f ++ counts_of encoding n fs
counts_push encoding n [] f = sym (append-nil (one_count encoding n f))
counts_push encoding n (g ∷ fs) f = search (append_assoc, counts_push encoding n fs f)

-- a frame passes a test of its count, if it is such a section
abbrev pub advances : Encoding → ℕ → (ℕ → Bool) → SectionFrame → Bool
advances encoding n p f = not (is_section encoding n f) || p (frame_count f)

-- a frame is such a section, and its count passes a test
abbrev pub offends : Encoding → ℕ → (ℕ → Bool) → SectionFrame → Bool
offends encoding n p f = is_section encoding n f && p (frame_count f)

-- each count passes exactly if each frame does
pub all_counts : (encoding : Encoding) (n : ℕ) (p : ℕ → Bool) (fs : List SectionFrame) → list_all p (counts_of encoding n fs)
    ≡ list_all (advances encoding n p) fs
all_counts encoding n p [] = refl
all_counts encoding n p (f ∷ fs) = grind (arith, list_all-append, and_comm, all_counts encoding n p fs)

-- a count passes exactly if a frame does
pub any_counts : (encoding : Encoding) (n : ℕ) (p : ℕ → Bool) (fs : List SectionFrame) → list_any p (counts_of encoding n fs)
    ≡ list_any (offends encoding n p) fs
any_counts encoding n p [] = refl
any_counts encoding n p (f ∷ fs) = grind (arith, list_any-append, or_comm, any_counts encoding n p fs)

-- there is no count exactly if there is no such section
pub no_counts : (encoding : Encoding) (n : ℕ) (fs : List SectionFrame) → nat_eq (length (counts_of encoding n fs)) 0
    ≡ not (list_any (is_section encoding n) fs)
no_counts encoding n [] = refl
no_counts encoding n (f ∷ fs) = grind (arith, no_counts encoding n fs, common_steps, eqb-suc-zero, append-nil)

-- each section with this id has this count
abbrev pub HasCount : Encoding → ℕ → ℕ → List SectionFrame → Type 0
HasCount encoding n c fs = All (λ g. IsSection encoding n g → frame_count g ≡ c) fs

-- the test of counts is right
pub same_to : (encoding : Encoding) (n c : ℕ) (fs : List SectionFrame) → HasCount encoding n c fs
    → list_all (nat_eq c) (counts_of encoding n fs) ≡ true
same_to encoding n c fs a = all_counts encoding n (nat_eq c) fs
    ∙ all_to (advances encoding n (nat_eq c)) (λ g. IsSection encoding n g → frame_count g ≡ c)
    (λ g h. grind arith) fs a

-- what the test of counts says
pub same_of : (encoding : Encoding) (n c : ℕ) (fs : List SectionFrame) → list_all (nat_eq c) (counts_of encoding n fs) ≡ true
    → HasCount encoding n c fs
same_of encoding n c fs e = grind (arith, common_steps, eqb-true, yes_section, all_counts)
