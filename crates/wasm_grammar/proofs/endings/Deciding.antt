-- If bytes don't suffice, something else is there after the suffix that decides than where the stream ends.
use Rattle.wasm_grammar.proofs.Common.{arith, ◌≡◌, Bool, true, false, cond, List, [], ◌∷◌, ◌++◌, refl, ℕ, length, None, ◌<◌, ◌&&◌, ◌∙◌}
use Rattle.wasm_grammar.proofs.Common.{nat_lt, nat_eq, ◌-◌, take, drop, nat_le, length-append, le-leb, ◌≢◌, replicate, leb-true, and_parts}
use Rattle.wasm_grammar.proofs.Common.{append_cancel_left, take-append-le, drop-append-le, length-replicate, list_any, number-used}
use Rattle.wasm_grammar.proofs.Common.{number-more, at_offset, magic, agree, name, Number, number, FunctionWithoutCode}
use Rattle.wasm_grammar.proofs.Common.{DataCountWithoutData, MagicAtSection, UnexpectedEof, MalformedSectionId, VarU32, Ending, fault}
use Rattle.wasm_grammar.proofs.Common.{ended, wrong_content, Tile, SectionContext, end_at_section, check, bytes, code_entry, final, after}
use Rattle.wasm_grammar.proofs.Common.{Grammar, accept, u32_field, after_id, section_start, Verdict, after_number, verdict, header_grammar}
use Rattle.wasm_grammar.proofs.Common.{section_grammar, body_grammar, grammar, ending_of_number, deciding_ending, enough, wants, later}
use Rattle.wasm_grammar.proofs.Common.{later_number, waiting}
use Rattle.std.proofs.lemmas.Bool.{leb-false}
use Rattle.std.proofs.lemmas.List.{take_all, drop_all}
use Rattle.wasm_base.proofs.NumberLaws.{number-long}
use Rattle.wasm_grammar.proofs.endings.BadNumbers.{bad_hint}
use Rattle.wasm_grammar.proofs.endings.Waiting.{later-wants}
use Rattle.wasm_grammar.proofs.parts.Bounds.{final_same}
use Rattle.wasm_grammar.proofs.parts.Verdicts.{agree-more}
use Rattle.wasm_grammar.proofs.readings.Endings.{after_final}

-- ---- every grammar

-- two verdicts that are equal after the same bytes are equal
after_same : (f : List ℕ) (a b : Verdict) → after f a ≡ after f b → a ≡ b
after_same f a b h = grind (arith, append_cancel_left)

-- Supplying missing bytes leads to something else, and so does supplying bytes where a section may start.
abbrev pub Differs : Grammar → Type 0
Differs (check e next) = Differs next
Differs (u32_field o next) = (v k : ℕ) → 0 < k → Differs (next v k)
Differs (bytes n o next) = ((c : List ℕ) → 0 < length c → verdict (next c) [] ≢ final (fault (at_offset UnexpectedEof o)))
    × ((b : List ℕ) → Differs (next b))
Differs (section_start o e next) = ((id : ℕ) → Differs (next id))
    × (verdict (section_start o e next) [] ≢ verdict (section_start o e next) (replicate 5 0x80))
    × ((id : ℕ) (xs : List ℕ) → agree (id ∷ xs) magic ≡ true → length (id ∷ xs) < 4
    → verdict (section_start o e next) (id ∷ xs) ≢ verdict (section_start o e next) ((id ∷ xs) ++ drop (length (id ∷ xs)) magic))
Differs _ = Unit {0}

number_differs : (o : ℕ) (xs : List ℕ) (next : ℕ → ℕ → Grammar) (n h : ℕ)
    → ((v k : ℕ) → 0 < k → (zs : List ℕ) (m : ℕ) → waiting (next v k) zs ≡ wants m h
    → verdict (next v k) zs ≢ verdict (next v k) (zs ++ deciding_ending (next v k) zs))
    → (x : Number) → number VarU32 xs ≡ x → later_number x (λ v k. waiting (next v k) (drop k xs)) ≡ wants n h
    → after_number o xs x (λ v k. verdict (next v k) (drop k xs)) ≢ verdict (u32_field o next)
    (xs ++ ending_of_number x (λ v k. deciding_ending (next v k) (drop k xs)))
unfolding verdict
number_differs o xs next n h e x f g w = grind (arith, number-used, number-more, take-append-le, drop-append-le, after_same, number-long)

bytes_differs : (count o : ℕ) (xs : List ℕ) (next : List ℕ → Grammar) (n h : ℕ) → Differs (bytes count o next)
    → ((b zs : List ℕ) (m : ℕ) → waiting (next b) zs ≡ wants m h
    → verdict (next b) zs ≢ verdict (next b) (zs ++ deciding_ending (next b) zs))
    → (x : Bool) → nat_le count (length xs) ≡ x → cond x (later count (waiting (next (take count xs)) (drop count xs)))
    (wants count (count - length xs)) ≡ wants n h
    → cond x (after (take count xs) (verdict (next (take count xs)) (drop count xs))) (final (fault (at_offset UnexpectedEof o)))
    ≢ verdict (bytes count o next) (xs ++ cond x (deciding_ending (next (take count xs)) (drop count xs)) (replicate (count - length xs) 0))
unfolding verdict
bytes_differs count o xs next n h s ih true e w z =
    grind (arith, leb-true, length-append, take-append-le, drop-append-le, later-wants, after_same)
bytes_differs count o xs next n h s ih false e w z = grind (arith, leb-false, length-append, length-replicate, take_all, drop_all, le-leb)

start_differs : (o : ℕ) (e : Ending) (next : ℕ → Grammar) (id : ℕ) (xs : List ℕ) (n h : ℕ) → Differs (section_start o e next)
    → ((m : ℕ) → waiting (next id) xs ≡ wants m h → verdict (next id) xs ≢ verdict (next id) (xs ++ deciding_ending (next id) xs))
    → (a l : Bool) → agree (id ∷ xs) magic ≡ a → nat_le 4 (length (id ∷ xs)) ≡ l
    → cond a (cond l enough (wants 4 (4 - length (id ∷ xs)))) (later 1 (waiting (next id) xs)) ≡ wants n h
    → verdict (section_start o e next) (id ∷ xs) ≢ verdict (section_start o e next)
    ((id ∷ xs) ++ cond a (drop (length (id ∷ xs)) magic) (deciding_ending (next id) xs))
unfolding verdict
start_differs o e next id xs n h f g a l w z c d = grind (arith, leb-false, agree-more)

-- if bytes don't suffice, something else is there after the suffix that decides
pub differs : (g : Grammar) → Differs g → (xs : List ℕ) (n h : ℕ) → waiting g xs ≡ wants n h
    → verdict g xs ≢ verdict g (xs ++ deciding_ending g xs)
unfolding verdict waiting deciding_ending
differs (check None next) p xs n h w = differs next p xs n h w
differs (u32_field o next) p xs n h w = number_differs o xs next n h (λ v k l zs m. differs (next v k) (p v k l) zs m h) (number VarU32 xs)
    refl w
differs (bytes c o next) p xs n h w = bytes_differs c o xs next n h p (λ b zs m. differs (next b) (p.1 b) zs m h) (nat_le c (length xs))
    refl w
differs (section_start o e next) p [] n h w = p.1
differs (section_start o e next) p (id ∷ xs) n h w =
    start_differs o e next id xs n h p (λ m. differs (next id) (p.0 id) xs m h) (agree (id ∷ xs) magic) (nat_le 4 (length (id ∷ xs))) refl
    refl w
differs _ p xs n h w = cc

-- ---- the grammars of a stream

body_there : (c : List ℕ) (o : ℕ) → verdict (accept (code_entry c)) [] ≢ final (fault (at_offset UnexpectedEof o))
unfolding verdict
body_there c o z = cc

end_other : (a b : Bool) (o : ℕ) → cond a (fault (at_offset FunctionWithoutCode o))
    (cond b (fault (at_offset DataCountWithoutData o)) (ended o)) ≢ fault (at_offset MalformedSectionId o)
end_other a b o e = grind arith

-- the first bytes of the magic are no header
begun_magic : (p : SectionContext) (o : ℕ) (xs : List ℕ) → agree xs (0x61 ∷ 0x73 ∷ 0x6d ∷ []) ≡ true → length xs < 3
    → verdict (after_id p o 0) xs ≢ final (fault (at_offset MagicAtSection o))
unfolding verdict number
begun_magic p o xs e f g = grind arith

begun_start : (p : SectionContext) (o : ℕ) (id : ℕ) (xs : List ℕ) → agree (id ∷ xs) magic ≡ true → length (id ∷ xs) < 4
    → verdict (section_start o (end_at_section p o) (after_id p o)) (id ∷ xs) ≢ final (fault (at_offset MagicAtSection o))
unfolding verdict
begun_start p o id xs a l z =
    begun_magic p o xs (and_parts (nat_eq id 0) (agree xs (0x61 ∷ 0x73 ∷ 0x6d ∷ [])) a).1 (omega arith)
    (grind (arith, after_final))

-- with its other bytes they are one
whole_magic : (o : ℕ) (e : Ending) (next : ℕ → Grammar) (id : ℕ) (xs : List ℕ) → agree (id ∷ xs) magic ≡ true → length (id ∷ xs) < 4
    → verdict (section_start o e next) ((id ∷ xs) ++ drop (length (id ∷ xs)) magic) ≡ final (fault (at_offset MagicAtSection o))
unfolding verdict
whole_magic o e next id [] a l = cc
whole_magic o e next id (b ∷ []) a l = cc
whole_magic o e next id (b ∷ c ∷ []) a l = cc
whole_magic o e next id (b ∷ c ∷ d ∷ xs) a l = absurd (omega arith)

Differs-section : (p : SectionContext) (o : ℕ) → Differs (section_grammar p o)
unfolding section_grammar verdict wrong_content name
Differs-section p o = (
  λ id v k l. grind (arith, final_same, bad_hint, number-used),
  λ z. end_other (list_any (nat_lt 0) p.functions && nat_eq (length p.codes) 0)
      (list_any (nat_lt 0) p.data_counts && nat_eq (length p.datas) 0) o (grind arith),
  λ id xs a l z. begun_start p o id xs a l (z ∙ whole_magic o (end_at_section p o) (after_id p o) id xs a l),
)

pub Differs-grammar : (start : ℕ) (ts : List Tile) → Differs (grammar start ts)
unfolding body_grammar header_grammar verdict
Differs-grammar start ts = grind (arith, Differs-section, body_there)
