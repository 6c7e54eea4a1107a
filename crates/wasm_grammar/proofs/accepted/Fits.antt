-- A section may follow other tiles exactly if it fits after their frames.
use Rattle.wasm_grammar.proofs.Common.{arith, ◌≡◌, ◌⊎◌, Bool, true, false, List, ℕ, length, None, ◌<◌, not, ◌&&◌, ◌∙◌, nat_lt, nat_eq}
use Rattle.wasm_grammar.proofs.Common.{eqb-true, eq-eqb, ltb-true, lt-ltb, common_steps, All, Any, SectionFrame, frame_count, frame_rank}
use Rattle.wasm_grammar.proofs.Common.{IsSection, Form, items, kind_of, whole, SectionContext, wrong_count, wrong_data, data_count_id}
use Rattle.wasm_grammar.proofs.Common.{data_id, function_id, Encoding, Module}
use Rattle.wasm_grammar.proofs.PlainLists.{all_to, any_of}
use Rattle.wasm_grammar.proofs.accepted.Counts.{is_section, counts_of, Knows, section_yes, yes_section, no_counts, HasCount, same_to}
use Rattle.wasm_grammar.proofs.accepted.Counts.{same_of}
use Rattle.wasm_grammar.proofs.accepted.Tiles.{IsWhole, same_form}
use Rattle.wasm_grammar.proofs.parts.Placed.{Follows}

-- a rank that is asked for only above 0
follows_to : (r : ℕ) (b : Bool) → (0 < r → b ≡ true) → (nat_lt 0 r && not b) ≡ false
follows_to r b h = grind arith

-- a section that ranks above the frames may follow
pub rank_to : (encoding : Encoding) (fs : List SectionFrame) (p : SectionContext) → Knows encoding fs p → (r : ℕ)
    → (0 < r → All (λ g. frame_rank encoding g < r) fs) → Follows p r
rank_to encoding fs p k r h = follows_to r (p.may_follow r)
    (λ l. k.ranks r l ∙ all_to (λ (g : SectionFrame). nat_lt (frame_rank encoding g) r) (λ g. frame_rank encoding g < r)
    (λ g. lt-ltb (frame_rank encoding g) r) fs (h l))

-- a section that may follow ranks above the frames
pub rank_from : (encoding : Encoding) (fs : List SectionFrame) (p : SectionContext) → Knows encoding fs p → (r : ℕ) → Follows p r → 0 < r
    → All (λ g. frame_rank encoding g < r) fs
rank_from encoding fs p k r f l = grind (arith, common_steps, ltb-true)

-- there is a section with this id
pub some_to : (encoding : Encoding) (n : ℕ) (fs : List SectionFrame) → Any (IsSection encoding n) fs
    → nat_eq (length (counts_of encoding n fs)) 0 ≡ false
some_to encoding n fs a = grind (arith, common_steps, no_counts, yes_section)

-- where there is a count, there is a section with this id
pub some_from : (encoding : Encoding) (n : ℕ) (fs : List SectionFrame) → nat_eq (length (counts_of encoding n fs)) 0 ≡ false
    → Any (IsSection encoding n) fs
some_from encoding n fs e =
    any_of (is_section encoding n) (IsSection encoding n) (λ g. section_yes encoding n g) fs
    (grind (arith, no_counts))

-- what a code section with this count requires of the frames before it
pub record CodeFits (encoding : Encoding) (fs : List SectionFrame) (c : ℕ) : Type 0 where
  pub bodies : HasCount encoding function_id c fs
  pub functions : Any (IsSection encoding function_id) fs ⊎ (c ≡ 0)

-- a code section that fits has the right count
pub code_to : (encoding : Encoding) (fs : List SectionFrame) (p : SectionContext) → Knows encoding fs p → (o c : ℕ) → CodeFits encoding fs c
    → wrong_count p o c ≡ None
code_to encoding fs p k o c h = grind (arith, same_to, some_to)

-- a code section with the right count fits
pub code_from : (encoding : Encoding) (fs : List SectionFrame) (p : SectionContext) → Knows encoding fs p → (o c : ℕ) → wrong_count p o c
    ≡ None → CodeFits encoding fs c
code_from encoding fs p k o c h = grind (arith, same_of, some_from)

-- sections of items are a module's
items_in : (encoding : Encoding) (id : ℕ) → kind_of encoding id ≡ whole items → encoding ≡ Module
items_in encoding id e = grind arith

-- a section that fits has the right count of segments
pub data_to : (encoding : Encoding) (fs : List SectionFrame) (p : SectionContext) → Knows encoding fs p → (f : SectionFrame) (o : ℕ)
    → (IsSection encoding data_id f → HasCount encoding data_count_id (frame_count f) fs)
    → (form : Form) → kind_of encoding f.id ≡ whole form → wrong_data p form f.id o f.sized.content ≡ None
data_to encoding fs p e f o g form h = grind (arith, same_to, items_in, eqb-true)

-- a section with the right count of segments fits
pub data_from : (encoding : Encoding) (fs : List SectionFrame) (p : SectionContext) → Knows encoding fs p
    → (f : SectionFrame) (o : ℕ) (w : IsWhole (kind_of encoding f.id)) → wrong_data p w.0 f.id o f.sized.content ≡ None
    → IsSection encoding data_id f → HasCount encoding data_count_id (frame_count f) fs
data_from encoding fs p k f o w h s = grind (arith, same_form, same_of, eq-eqb)
