-- A part whose end is missing, by its first eight bytes: as many bytes are missing as it has more than came.
use Rattle.wasm_grammar.proofs.Common.{arith, ap, sym, ◌∙◌, ◌≡◌, Bool, true, false, not, cond, List, [], ◌∷◌, ◌++◌, refl, ℕ, ◌+◌, ◌-◌}
use Rattle.wasm_grammar.proofs.Common.{length, ◌≤◌, ◌<◌, zero, suc, take, drop, nat_le, nat_lt, leb-true, le-leb, length-append}
use Rattle.wasm_grammar.proofs.Common.{length-drop, number-used, number-more, Option, Some, None, FaultAt, at_offset, UnexpectedEof}
use Rattle.wasm_grammar.proofs.Common.{BadMagic, number, read, bad, Number, VarU32, Kind, Form, SectionContext, Shape, Grammar, accept}
use Rattle.wasm_grammar.proofs.Common.{check, bytes, when, u32_field, whole, code, code_start, wrong_count, content_grammar}
use Rattle.wasm_grammar.proofs.Common.{whole_grammar, code_grammar, after_length, after_id, magic, agree, of_four, version_of, Encoding}
use Rattle.wasm_grammar.proofs.Common.{header_grammar, section_grammar, body_grammar, enough, wants, later, later_number, waiting}
use Rattle.wasm_grammar.proofs.parts.Verdicts.{agree_same}
use Rattle.wasm_base.proofs.NumberLaws.{number-short}
use Rattle.wasm_base.specs.Number.{short}
use Rattle.wasm_grammar.proofs.endings.Waiting.{later-wants}
use Rattle.wasm_grammar.specs.Grammar.{header_of}
use Rattle.wasm_grammar.specs.Waiting.{Waiting}

-- This many bytes are needed, as many as came and are missing, and so others want those that they lack.
abbrev pub Lacks : (need hint : ℕ) (xs ys : List ℕ) → Waiting → Type 0
Lacks need hint xs ys other = (need ≡ length xs + hint) × (other ≡ wants need (need - length ys))

-- If more than one byte is missing of what comes by this grammar, others want as many as they lack.
unfoldable pub Alike : Grammar → (xs ys : List ℕ) → Type 0
Alike g xs ys = (need hint : ℕ) → waiting g xs ≡ wants need hint → 2 ≤ hint → length ys < length xs + hint
    → Lacks need hint xs ys (waiting g ys)

-- ---- by the forms of grammars

enough_alike : (g : Grammar) (xs ys : List ℕ) → waiting g xs ≡ enough → Alike g xs ys
unfolding Alike
enough_alike g xs ys e need hint w = cc

alike_check : (e : Option FaultAt) (g : Grammar) (xs ys : List ℕ) → Alike g xs ys → Alike (check e g) xs ys
unfolding waiting Alike
alike_check None g xs ys h = h
alike_check (Some f) g xs ys h = λ need hint w. cc

checks_enough : (x y : Option FaultAt) (s : Shape) (xs : List ℕ) → waiting (check x (check y (accept s))) xs ≡ enough
unfolding waiting
checks_enough None None s xs = refl
checks_enough None (Some f) s xs = refl
checks_enough (Some f) y s xs = refl

-- bytes after which nothing is missing
bytes_by : (size : ℕ) (xs ys : List ℕ) (w : Waiting) → w ≡ enough → (b c : Bool) → nat_le size (length xs) ≡ b → nat_le size (length ys) ≡ c
    → (need hint : ℕ) → cond b (later size w) (wants size (size - length xs)) ≡ wants need hint → length ys < length xs + hint
    → (v : Waiting) → Lacks need hint xs ys (cond c v (wants size (size - length ys)))
bytes_by size xs ys w e b c p q need hint a l v = grind (arith, leb-true)

alike_bytes : (size o : ℕ) (next : List ℕ → Grammar) (xs ys : List ℕ) → ((b zs : List ℕ) → waiting (next b) zs ≡ enough)
    → Alike (bytes size o next) xs ys
unfolding waiting Alike
alike_bytes size o next xs ys h need hint a two l = bytes_by size xs ys _ (h _ _) _ _ refl refl need hint a l _

-- what comes after bytes that both have
later_by : (k need hint : ℕ) (xs ys : List ℕ) (v w : Waiting) → k ≤ length xs → k ≤ length ys
    → ((n : ℕ) → v ≡ wants n hint → length (drop k ys) < length (drop k xs) + hint → Lacks n hint (drop k xs) (drop k ys) w)
    → later k v ≡ wants need hint → length ys < length xs + hint → Lacks need hint xs ys (later k w)
later_by k need hint xs ys v w lx ly ih a l =
    let m : (n : ℕ) × (v ≡ wants n hint) × (need ≡ k + n) = later-wants k v need hint a in
    let r : Lacks m.0 hint (drop k xs) (drop k ys) w =
    ih m.0 m.1 (omega (arith, length-drop k xs, length-drop k ys)) in
    let e : need - length ys ≡ m.0 - length (drop k ys) = omega (arith, length-drop k xs, length-drop k ys, m.2, r.0) in
    (omega (arith, length-drop k xs, m.2, r.0), rw (r.1, e) (ap (λ x. wants x (m.0 - length (drop k ys))) (sym m.2)))

-- a number that ends within the bytes that both begin with
alike_number : (o : ℕ) (first xs ys : List ℕ) (next : ℕ → ℕ → Grammar) → 5 ≤ length first
    → ((v k : ℕ) → k ≤ length first → Alike (next v k) (drop k (first ++ xs)) (drop k (first ++ ys)))
    → Alike (u32_field o next) (first ++ xs) (first ++ ys)
unfolding waiting Alike
alike_number o first xs ys next five h need hint a two l = by_first (number VarU32 first) refl a
  where
    by_first : (n : Number) → number VarU32 first ≡ n
        → later_number (number VarU32 (first ++ xs)) (λ v k. waiting (next v k) (drop k (first ++ xs))) ≡ wants need hint
        → Lacks need hint (first ++ xs) (first ++ ys) (later_number (number VarU32 (first ++ ys))
        (λ v k. waiting (next v k) (drop k (first ++ ys))))
    by_first (read v k) e b =
        let u = number-used VarU32 first v k e in
        let p : number VarU32 (first ++ xs) ≡ read v k = number-more VarU32 first xs (λ z. cc) ∙ e in
        let q : number VarU32 (first ++ ys) ≡ read v k = number-more VarU32 first ys (λ z. cc) ∙ e in
        rw q (later_by k need hint (first ++ xs) (first ++ ys) _ _ (omega (arith, length-append first xs, u.there))
        (omega (arith, length-append first ys, u.there)) (λ n w m. h v k u.there n hint w two m) (rw p at b) l)
    by_first (bad f k) e b =
        let p : number VarU32 (first ++ xs) ≡ bad f k = number-more VarU32 first xs (λ z. cc) ∙ e in
        let z : enough ≡ wants need hint = rw p at b in cc
    by_first short e b = let s = number-short VarU32 first e in absurd (omega (arith, five, s.1))

-- ---- by the parts of a stream

module _ (context : SectionContext) (id o size : ℕ) (xs ys : List ℕ) where
  alike_whole : (form : Form) → Alike (whole_grammar context form id o size) xs ys
  alike_whole form = alike_bytes size o _ xs ys (λ b zs. checks_enough _ _ _ zs)

  alike_content : (kind : Kind) → Alike (content_grammar context kind id o size) xs ys
  unfolding Alike waiting
  alike_content (whole form) need hint a two l = alike_whole form need hint a two l
  alike_content code need hint a two l = by_number (number VarU32 xs) a
    where
      by_number : (n : Number) → later_number n (λ v k. waiting (check (when (nat_lt size k) (at_offset UnexpectedEof o))
          (check (wrong_count context o v) (accept (code_start v k (size - k))))) (drop k xs)) ≡ wants need hint
          → Lacks need hint xs ys (waiting (code_grammar context o size) ys)
      by_number (read v k) b = let z : enough ≡ wants need hint = rw (checks_enough _ _ _ (drop k xs)) at b in cc
      by_number (bad f k) b = cc
      by_number short b = let z : hint ≡ 1 = cc in absurd (omega (arith, two))

  alike_length : (kind : Kind) (field : ℕ) → Alike (after_length context kind id field o size) xs ys
  alike_length kind field = alike_check _ _ xs ys (alike_check _ _ xs ys (alike_content kind))

alike_id : (context : SectionContext) (o id : ℕ) (first xs ys : List ℕ) → 5 ≤ length first
    → Alike (after_id context o id) (first ++ xs) (first ++ ys)
alike_id context o id first xs ys five =
    alike_check _ _ _ _ (alike_number (o + 1) first xs ys _ five (λ v k l. alike_length context id (o + 1 + k) v _ _ _ (o + 1)))

alike_section : (context : SectionContext) (o : ℕ) (first xs ys : List ℕ) → 6 ≤ length first
    → Alike (section_grammar context o) (first ++ xs) (first ++ ys)
unfolding Alike section_grammar waiting
alike_section context o [] xs ys six need hint a two l = absurd (omega (arith, six))
alike_section context o (id ∷ first) xs ys six need hint a two l = by_magic (agree (id ∷ (first ++ xs)) magic) _ refl refl a
  where
    by_magic : (b c : Bool) → agree (id ∷ (first ++ xs)) magic ≡ b → nat_le 4 (length (id ∷ (first ++ xs))) ≡ c
        → cond b (cond c enough (wants 4 (4 - length (id ∷ (first ++ xs))))) (later 1 (waiting (after_id context o id) (first ++ xs)))
        ≡ wants need hint
        → Lacks need hint (id ∷ (first ++ xs)) (id ∷ (first ++ ys)) (waiting (section_grammar context o) (id ∷ (first ++ ys)))
    by_magic true true e f b = cc
    by_magic true false e f b =
        let t : nat_le 4 (length (id ∷ (first ++ xs))) ≡ true = le-leb 4 _ (omega (arith, six, length-append first xs)) in cc
    by_magic false c e f b =
        let four : 4 ≤ length (id ∷ first) = omega (arith, six) in
        let m : agree (id ∷ first) magic ≡ false = sym (agree_same (id ∷ first) xs magic four) ∙ e in
        let n : agree (id ∷ (first ++ ys)) magic ≡ false = agree_same (id ∷ first) ys magic four ∙ m in
        rw n (later_by 1 need hint (id ∷ (first ++ xs)) (id ∷ (first ++ ys)) _ (waiting (after_id context o id) (first ++ ys)) (omega arith)
        (omega arith) (λ m w k. alike_id context o id first xs ys (omega (arith, six)) m hint w two k) b l)

alike_body : (bodies code_bytes o : ℕ) (first xs ys : List ℕ) → 5 ≤ length first
    → Alike (body_grammar bodies code_bytes o) (first ++ xs) (first ++ ys)
unfolding body_grammar waiting
alike_body zero code_bytes o first xs ys five = enough_alike _ _ _ refl
alike_body (suc bodies) code_bytes o first xs ys five =
    alike_number o first xs ys _ five (λ v k l. alike_check _ _ _ _ (alike_bytes v (o + k) _ _ _ (λ b zs. refl)))

version_enough : (o bits : ℕ) (e : Option Encoding) (zs : List ℕ) → waiting (header_of o bits e) zs ≡ enough
unfolding waiting
version_enough o bits None zs = refl
version_enough o bits (Some e) zs = refl

-- eight bytes are a header, or none
header_enough : (o : ℕ) (zs : List ℕ) → 8 ≤ length zs → waiting (header_grammar o) zs ≡ enough
unfolding header_grammar waiting
header_enough o zs l = rw (le-leb 4 (length zs) (omega (arith, l))) (by_magic (agree (take 4 zs) magic))
  where
    by_magic : (b : Bool) → later 4 (waiting (check (when (not b) (at_offset BadMagic o))
        (bytes 4 (o + 4) (λ four. version_of o (of_four four)))) (drop 4 zs)) ≡ enough
    by_magic false = refl
    by_magic true = rw (le-leb 4 (length (drop 4 zs)) (omega (arith, length-drop 4 zs, l)), version_enough o _ _ (drop 4 (drop 4 zs))) refl

pub alike_header : (o : ℕ) (first xs ys : List ℕ) → 8 ≤ length first → Alike (header_grammar o) (first ++ xs) (first ++ ys)
alike_header o first xs ys eight = enough_alike _ _ _ (header_enough o (first ++ xs) (omega (arith, eight, length-append first xs)))

-- a part where a parser is, by its first eight bytes
pub alike_inside : (context : SectionContext) (bodies code_bytes o : ℕ) (first xs ys : List ℕ) → 8 ≤ length first
    → (b : Bool) → Alike (cond b (section_grammar context o) (body_grammar bodies code_bytes o)) (first ++ xs) (first ++ ys)
alike_inside context bodies code_bytes o first xs ys eight true = alike_section context o first xs ys (omega (arith, eight))
alike_inside context bodies code_bytes o first xs ys eight false = alike_body bodies code_bytes o first xs ys (omega (arith, eight))
