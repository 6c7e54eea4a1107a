-- What each grammar of the stream keeps: its tiles are guarded, and take at least one byte.
use Rattle.wasm_grammar.proofs.Common.{arith, ◌≡◌, Bool, true, cond, List, ◌∷◌, ◌++◌, refl, ℕ, ◌+◌, length, ◌≤◌, ◌<◌, eqb-true, Option}
use Rattle.wasm_grammar.proofs.Common.{zero, suc, take, drop, length-append, leb-true, and_parts, length-take-le, number-used, FaultAt}
use Rattle.wasm_grammar.proofs.Common.{magic, agree, read, number, VarU32, kind_of, Tile, SectionContext, tile, check, bytes, Grammar}
use Rattle.wasm_grammar.proofs.Common.{u32_field, after_length, after_id, body_of, verdict, header_grammar, section_grammar, body_grammar}
use Rattle.wasm_grammar.proofs.Common.{grammar}
use Rattle.wasm_grammar.proofs.parts.Verdicts.{Guarded, after-tile}

-- a tile after a test that fails
pub refused : (e : Option FaultAt) (g : Grammar) (xs : List ℕ) (t : Tile) → verdict (check e g) xs ≡ tile t → verdict g xs ≡ tile t
unfolding verdict
refused e g xs t h = grind arith

-- a tile has the bytes that it begins with
pub bytes_least : (count o : ℕ) (next : List ℕ → Grammar) (xs : List ℕ) (t : Tile) → verdict (bytes count o next) xs ≡ tile t
    → count ≤ length t.bytes
unfolding verdict
bytes_least count o next xs t w = grind (arith, after-tile, length-append, length-take-le, leb-true)

-- what a tile that begins with a number is
pub record Numbered (next : ℕ → ℕ → Grammar) (xs : List ℕ) (t : Tile) : Type 0 where
  pub value : ℕ
  pub used : ℕ
  pub reads : number VarU32 xs ≡ read value used
  pub rest : Tile
  pub goes_on : verdict (next value used) (drop used xs) ≡ tile rest
  pub is : t ≡ record rest { bytes = take used xs ++ rest.bytes }

pub numbered : (o : ℕ) (next : ℕ → ℕ → Grammar) (xs : List ℕ) (t : Tile) → verdict (u32_field o next) xs ≡ tile t → Numbered next xs t
unfolding verdict
numbered o next xs t w = grind arith

pub number_least : (o : ℕ) (next : ℕ → ℕ → Grammar) (xs : List ℕ) (t : Tile) → verdict (u32_field o next) xs ≡ tile t → 0 < length t.bytes
number_least o next xs t w =
    let n : Numbered next xs t = numbered o next xs t w in
    grind (arith, number-used, length-take-le)

-- 0x61 alone is a number, 97
pub one_byte : (xs : List ℕ) → number VarU32 (0x61 ∷ xs) ≡ read 0x61 1
unfolding number
one_byte xs = refl

longer : (p : SectionContext) (o id : ℕ) (xs : List ℕ) (s : Tile) → verdict (after_id p o id) xs ≡ tile s → agree (id ∷ s.bytes) magic
    ≡ true → 4 ≤ length (id ∷ s.bytes)
longer p o id xs s w e =
    let n : Numbered (λ size width. after_length p (kind_of p.encoding id) id (o + 1) (o + 1 + width) size) xs s =
    numbered (o + 1) _ xs s (refused _ _ xs s w) in
    grind (arith, number-used, and_parts, eqb-true, one_byte, bytes_least, refused)

pub Guarded-header : (o : ℕ) → Guarded (header_grammar o)
unfolding header_grammar
Guarded-header o = grind arith

pub Guarded-inside_at : (b : Bool) (p : SectionContext) (m l o : ℕ) → Guarded (cond b (section_grammar p o) (body_grammar m l o))
unfolding body_grammar section_grammar
Guarded-inside_at b p m l o = grind (arith, longer)

pub Guarded-grammar : (start : ℕ) (ts : List Tile) → Guarded (grammar start ts)
Guarded-grammar start ts = grind (arith, Guarded-header, Guarded-inside_at)

least_body : (m l o : ℕ) (xs : List ℕ) (t : Tile) → verdict (body_grammar m l o) xs ≡ tile t → 0 < length t.bytes
unfolding body_grammar verdict
least_body zero l o xs t e = cc
least_body (suc m) l o xs t e = number_least o (body_of o l) xs t e

pub least_header : (o : ℕ) (xs : List ℕ) (t : Tile) → verdict (header_grammar o) xs ≡ tile t → 0 < length t.bytes
unfolding header_grammar
least_header o xs t e = let l : 4 ≤ length t.bytes = bytes_least 4 o _ xs t e in omega arith

pub least_inside : (b : Bool) (p : SectionContext) (m l o : ℕ) (xs : List ℕ) (t : Tile)
    → verdict (cond b (section_grammar p o) (body_grammar m l o)) xs ≡ tile t → 0 < length t.bytes
unfolding section_grammar verdict
least_inside b p m l o xs t e = grind (arith, least_body)

-- each tile has a byte
pub tile_least : (start : ℕ) (ts : List Tile) (xs : List ℕ) (t : Tile) → verdict (grammar start ts) xs ≡ tile t → 0 < length t.bytes
tile_least start ts xs t e = grind (arith, least_header, least_inside)
