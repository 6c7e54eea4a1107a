-- Laws of every grammar.
use Rattle.wasm_grammar.proofs.Common.{arith, ◌≡◌, Bool, true, false, cond, List, [], ◌∷◌, ◌++◌, refl, ℕ, length, ◌≤◌, None, ◌&&◌}
use Rattle.wasm_grammar.proofs.Common.{append_assoc, ◌-◌, take, drop, nat_le, length-append, le-leb, leb-true, length-take-le, take_at}
use Rattle.wasm_grammar.proofs.Common.{drop_at, take-append-le, drop-append-le, number-used, number-more, at_offset, magic, agree, Number}
use Rattle.wasm_grammar.proofs.Common.{read, number, MagicAtSection, UnexpectedEof, VarU32, Ending, fault, Tile, tile, check, bytes, final}
use Rattle.wasm_grammar.proofs.Common.{after, Grammar, accept, u32_field, section_start, Verdict, after_number, verdict, enough, wants}
use Rattle.wasm_grammar.proofs.Common.{later, later_number, waiting}
use Rattle.std.proofs.lemmas.List.{take-append-drop}
use Rattle.wasm_base.proofs.NumberLaws.{Used}

-- lists that don't agree still don't, whatever follows
pub agree-more : (xs ys zs : List ℕ) → agree xs zs ≡ false → agree (xs ++ ys) zs ≡ false
agree-more (x ∷ xs) ys (z ∷ zs) e = grind (arith, agree-more xs ys zs)
agree-more _ ys _ e = cc

number_more : (offset : ℕ) (xs ys : List ℕ) (next : ℕ → ℕ → Grammar)
    → ((v k : ℕ) (zs : List ℕ) → waiting (next v k) zs ≡ enough → verdict (next v k) (zs ++ ys) ≡ verdict (next v k) zs)
    → (n : Number) → number VarU32 xs ≡ n
    → later_number n (λ v k. waiting (next v k) (drop k xs)) ≡ enough
    → after_number offset (xs ++ ys) (number VarU32 (xs ++ ys)) (λ v k. verdict (next v k) (drop k (xs ++ ys)))
    ≡ after_number offset xs n (λ v k. verdict (next v k) (drop k xs))
number_more offset xs ys next v k zs n = grind (arith, number-used, number-more, take-append-le, drop-append-le)

bytes_more : (count offset : ℕ) (xs ys : List ℕ) (next : List ℕ → Grammar)
    → ((b zs : List ℕ) → waiting (next b) zs ≡ enough → verdict (next b) (zs ++ ys) ≡ verdict (next b) zs)
    → (t : Bool) → nat_le count (length xs) ≡ t
    → cond t (later count (waiting (next (take count xs)) (drop count xs))) (wants count (count - length xs)) ≡ enough
    → cond (nat_le count (length (xs ++ ys))) (after (take count (xs ++ ys))
    (verdict (next (take count (xs ++ ys))) (drop count (xs ++ ys)))) (final (fault (at_offset UnexpectedEof offset)))
    ≡ cond t (after (take count xs) (verdict (next (take count xs)) (drop count xs))) (final (fault (at_offset UnexpectedEof offset)))
bytes_more count offset xs ys next ih t e w = grind (arith, leb-true, length-append, take-append-le, drop-append-le)

pub agree_same : (xs ys zs : List ℕ) → length zs ≤ length xs → agree (xs ++ ys) zs ≡ agree xs zs
agree_same [] ys [] h = nil ys
  where
    nil : (ys : List ℕ) → agree ys [] ≡ true
    nil [] = refl
    nil (y ∷ ys) = refl
agree_same [] ys (z ∷ zs) h = absurd (omega arith)
agree_same (x ∷ xs) ys [] h = refl
agree_same (x ∷ xs) ys (z ∷ zs) h = rw (agree_same xs ys zs (omega arith))

start_more : (offset id : ℕ) (xs ys : List ℕ) (next : ℕ → Grammar)
    → ((zs : List ℕ) → waiting (next id) zs ≡ enough → verdict (next id) (zs ++ ys) ≡ verdict (next id) zs)
    → (a l : Bool) → agree (id ∷ xs) magic ≡ a → nat_le 4 (length (id ∷ xs)) ≡ l
    → cond a (cond l enough (wants 4 (4 - length (id ∷ xs)))) (later 1 (waiting (next id) xs)) ≡ enough
    → cond (agree (id ∷ (xs ++ ys)) magic && nat_le 4 (length (id ∷ (xs ++ ys)))) (final (fault (at_offset MagicAtSection offset)))
    (after (id ∷ []) (verdict (next id) (xs ++ ys)))
    ≡ cond (a && l) (final (fault (at_offset MagicAtSection offset))) (after (id ∷ []) (verdict (next id) xs))
start_more offset id xs ys next ih a l e f w = grind (arith, leb-true, length-append, agree_same, le-leb, agree-more)

-- what bytes that suffice decide stays so, whatever follows
pub verdict-more : (g : Grammar) (xs ys : List ℕ) → waiting g xs ≡ enough → verdict g (xs ++ ys) ≡ verdict g xs
unfolding verdict waiting
verdict-more (check None next) xs ys w = verdict-more next xs ys w
verdict-more (u32_field offset next) xs ys w =
    number_more offset xs ys next (λ v k zs. verdict-more (next v k) zs ys) (number VarU32 xs) refl w
verdict-more (bytes count offset next) xs ys w =
    bytes_more count offset xs ys next (λ b zs. verdict-more (next b) zs ys) (nat_le count (length xs)) refl w
verdict-more (section_start offset e next) [] ys w = cc
verdict-more (section_start offset e next) (id ∷ xs) ys w =
    start_more offset id xs ys next (λ zs. verdict-more (next id) zs ys) (agree (id ∷ xs) magic) (nat_le 4 (length (id ∷ xs))) refl refl w
verdict-more _ xs ys w = refl

-- ---- what a tile is depends on its bytes alone

pub after-tile : (prefix : List ℕ) (v : Verdict) (t : Tile) → after prefix v ≡ tile t → (s : Tile) × (v ≡ tile s)
    × (t ≡ record s { bytes = prefix ++ s.bytes })
after-tile prefix v t e = grind arith

-- what the verdict `tile t` on bytes says: t has the first of them, and no other byte mattered
pub record Cut (g : Grammar) (xs : List ℕ) (t : Tile) : Type 0 where
  pub rest : List ℕ
  pub split : xs ≡ t.bytes ++ rest
  pub waits : waiting g t.bytes ≡ enough
  pub alone : verdict g t.bytes ≡ tile t

number_join : (offset : ℕ) (next : ℕ → ℕ → Grammar) (v k : ℕ) (f zs : List ℕ) (s : Tile) → length f ≡ k → number VarU32 f ≡ read v k
    → Cut (next v k) zs s → Cut (u32_field offset next) (f ++ zs) (record s { bytes = f ++ s.bytes })
unfolding verdict waiting
number_join offset next v k f zs s len e c = grind (arith, number-more, take_at, drop_at, append_assoc)

number_cut : (offset : ℕ) (xs : List ℕ) (next : ℕ → ℕ → Grammar)
    → ((v k : ℕ) (zs : List ℕ) (s : Tile) → verdict (next v k) zs ≡ tile s → Cut (next v k) zs s)
    → (n : Number) → number VarU32 xs ≡ n → (t : Tile)
    → after_number offset xs n (λ v k. verdict (next v k) (drop k xs)) ≡ tile t → Cut (u32_field offset next) xs t
number_cut offset xs next ih (read v k) e t w =
    let u : Used VarU32 xs v k = number-used VarU32 xs v k e in
    let (s, r, q) = after-tile (take k xs) (verdict (next v k) (drop k xs)) t w in
    let j : Cut (u32_field offset next) (take k xs ++ drop k xs) (record s { bytes = take k xs ++ s.bytes }) =
    search (number_join, length-take-le) in
    grind (arith, take-append-drop)
number_cut offset xs next ih _ e t w = cc

bytes_join : (count offset : ℕ) (next : List ℕ → Grammar) (f zs : List ℕ) (s : Tile) → length f ≡ count
    → Cut (next f) zs s → Cut (bytes count offset next) (f ++ zs) (record s { bytes = f ++ s.bytes })
unfolding verdict waiting
bytes_join count offset next f zs s len c = grind (arith, le-leb, length-append, take_at, drop_at, append_assoc)

bytes_cut : (count offset : ℕ) (xs : List ℕ) (next : List ℕ → Grammar)
    → ((b zs : List ℕ) (s : Tile) → verdict (next b) zs ≡ tile s → Cut (next b) zs s)
    → (b : Bool) → nat_le count (length xs) ≡ b → (t : Tile)
    → cond b (after (take count xs) (verdict (next (take count xs)) (drop count xs))) (final (fault (at_offset UnexpectedEof offset)))
    ≡ tile t → Cut (bytes count offset next) xs t
bytes_cut count offset xs next ih true e t w =
    let (s, r, q) = after-tile (take count xs) (verdict (next (take count xs)) (drop count xs)) t w in
    let j : Cut (bytes count offset next) (take count xs ++ drop count xs) (record s { bytes = take count xs ++ s.bytes }) =
    grind (arith, bytes_join, length-take-le) in
    grind (arith, take-append-drop)
bytes_cut count offset xs next ih false e t w = cc

-- a tile whose bytes begin as a header does is longer than the magic
abbrev pub Guarded : Grammar → Type 0
Guarded (check e next) = Guarded next
Guarded (u32_field offset next) = (v k : ℕ) → Guarded (next v k)
Guarded (bytes count offset next) = (b : List ℕ) → Guarded (next b)
Guarded (section_start offset e next) = (id : ℕ) → Guarded (next id)
    × ((xs : List ℕ) (s : Tile) → verdict (next id) xs ≡ tile s → agree (id ∷ s.bytes) magic ≡ true → 4 ≤ length (id ∷ s.bytes))
Guarded _ = Unit {0}

start_join : (offset : ℕ) (z : Ending) (next : ℕ → Grammar) (id : ℕ) (zs : List ℕ) (s : Tile) (b : Bool) → agree (id ∷ s.bytes) magic ≡ b
    → (b ≡ true → 4 ≤ length (id ∷ s.bytes)) → ((agree (id ∷ zs) magic && nat_le 4 (length (id ∷ zs))) ≡ false)
    → Cut (next id) zs s → Cut (section_start offset z next) (id ∷ zs) (record s { bytes = id ∷ s.bytes })
unfolding verdict waiting
start_join offset z next id zs s b e g m c = grind (arith, length-append, agree_same)

start_cut : (offset : ℕ) (z : Ending) (next : ℕ → Grammar) (id : ℕ) (xs : List ℕ)
    → ((s : Tile) → verdict (next id) xs ≡ tile s → Cut (next id) xs s)
    → ((s : Tile) → verdict (next id) xs ≡ tile s → agree (id ∷ s.bytes) magic ≡ true → 4 ≤ length (id ∷ s.bytes))
    → (b : Bool) → (agree (id ∷ xs) magic && nat_le 4 (length (id ∷ xs))) ≡ b → (t : Tile)
    → cond b (final (fault (at_offset MagicAtSection offset))) (after (id ∷ []) (verdict (next id) xs)) ≡ tile t
    → Cut (section_start offset z next) (id ∷ xs) t
start_cut offset z next id xs ih g b e t w = grind (arith, start_join)

-- a tile has the first of the bytes, and no other byte matters to it
pub verdict-cut : (g : Grammar) → Guarded g → (xs : List ℕ) (t : Tile) → verdict g xs ≡ tile t → Cut g xs t
unfolding verdict waiting
verdict-cut (accept s) gd xs t w =
    let c : Cut (accept s) xs (record { shape = s; bytes = [] }) = record { rest = xs; split = refl; waits = refl; alone = refl } in
    grind arith
verdict-cut (check None next) gd xs t w = grind (arith, verdict-cut next gd xs t w)
verdict-cut (u32_field offset next) gd xs t w = number_cut offset xs next (λ v k. verdict-cut (next v k) (gd v k)) (number VarU32 xs) refl t
    w
verdict-cut (bytes count offset next) gd xs t w = bytes_cut count offset xs next (λ b. verdict-cut (next b) (gd b))
    (nat_le count (length xs)) refl t w
verdict-cut (section_start offset z next) gd (id ∷ xs) t w = grind (arith, start_cut, verdict-cut (next id) ((gd id).0) xs)
verdict-cut _ gd _ t w = cc
