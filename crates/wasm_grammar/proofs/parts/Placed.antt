-- What is at a place is what may come there.
use Rattle.wasm_grammar.proofs.Common.{arith, ◌≡◌, Bool, true, false, cond, List, [], ◌∷◌, refl, ℕ, ◌+◌, None, ◌<◌, not, ◌&&◌, sym, nat_lt}
use Rattle.wasm_grammar.proofs.Common.{subst, zero, suc, take, drop, common_steps, list_all, FaultAt, Number, number, VarU32, kind_of}
use Rattle.wasm_grammar.proofs.Common.{whole, when, Kind, code, rank_of, Tile, SectionContext, version, tile, check, bytes, section}
use Rattle.wasm_grammar.proofs.Common.{code_start, code_entry, Shape, after, Grammar, accept, u32_field, content_grammar, section_start}
use Rattle.wasm_grammar.proofs.Common.{Verdict, after_number, reject, verdict, header_grammar, section_grammar, body_grammar, context_of}
use Rattle.wasm_grammar.proofs.Common.{grammar, tile_rank}
use Rattle.wasm_grammar.proofs.parts.Verdicts.{after-tile}

-- what each tile of a grammar is known to be
abbrev pub Each : (Shape → Type 0) → Grammar → Type 0
Each P (accept s) = P s
Each P (reject e) = Unit {0}
Each P (check e next) = e ≡ None → Each P next
Each P (u32_field offset next) = (v k : ℕ) → Each P (next v k)
Each P (bytes count offset next) = (b : List ℕ) → Each P (next b)
Each P (section_start offset e next) = (id : ℕ) → Each P (next id)

each_after : (P : Shape → Type 0) (f : List ℕ) (v : Verdict) (t : Tile) → ((s : Tile) → v ≡ tile s → P s.shape) → after f v ≡ tile t
    → P t.shape
each_after P f v t h e = let (s, r, q) = after-tile f v t e in subst (λ (x : Tile). P x.shape) (sym q) (h s r)

each_number : (P : Shape → Type 0) (o : ℕ) (xs : List ℕ) (n : Number) (next : ℕ → ℕ → Verdict) (t : Tile)
    → ((v k : ℕ) (s : Tile) → next v k ≡ tile s → P s.shape) → after_number o xs n next ≡ tile t → P t.shape
each_number P o xs n next t v k = grind arith

pub each_tile : (P : Shape → Type 0) (g : Grammar) → Each P g → (xs : List ℕ) (t : Tile) → verdict g xs ≡ tile t → P t.shape
unfolding verdict
each_tile P (accept s) h xs t e = grind arith
each_tile P (check None next) h xs t w = each_tile P next (h refl) xs t w
each_tile P (u32_field o next) h xs t w = each_number P o xs (number VarU32 xs) (λ v k. verdict (next v k) (drop k xs)) t
    (λ v k. each_tile P (next v k) (h v k) (drop k xs)) w
each_tile P (bytes n o next) h xs t w = grind (arith, each_after, each_tile P (next (take n xs)) (h (take n xs)) (drop n xs))
each_tile P (section_start o z next) h (id ∷ xs) t w = grind (arith, each_after, each_tile P (next id) (h id) xs)
each_tile P _ h _ t w = cc

-- a section of this rank may follow
abbrev pub Follows : SectionContext → ℕ → Type 0
Follows p r = (nat_lt 0 r && not (p.may_follow r)) ≡ false

-- the tile is a section that may follow, or its head
abbrev pub Placed : SectionContext → Shape → Type 0
Placed p (section kind id content) = Follows p (rank_of (whole kind) id)
Placed p (code_start count width size) = Follows p (rank_of code 10)
Placed p _ = ⊥

-- a test that finds nothing wrong fails
pub none_when : (b : Bool) (e : FaultAt) → when b e ≡ None → b ≡ false
none_when b e h = grind arith

placed_content : (p : SectionContext) (kind : Kind) (id o n : ℕ) → Follows p (rank_of kind id)
    → Each (Placed p) (content_grammar p kind id o n)
placed_content p kind id o n f = grind arith

pub placed : (p : SectionContext) (o : ℕ) (xs : List ℕ) (t : Tile) → verdict (section_grammar p o) xs ≡ tile t → Placed p t.shape
unfolding section_grammar
placed p o xs t e = each_tile (Placed p) (section_grammar p o)
    (λ id x n k y z. placed_content p (kind_of p.encoding id) id (o + 1 + k) n (none_when _ _ z)) xs t e

-- the tile is a body
abbrev pub IsBody : Shape → Type 0
IsBody (code_entry content) = Unit {0}
IsBody _ = ⊥

pub bodied : (m l o : ℕ) (xs : List ℕ) (t : Tile) → verdict (body_grammar m l o) xs ≡ tile t → IsBody t.shape
unfolding body_grammar
bodied zero l o xs t e = each_tile IsBody (body_grammar zero l o) tt xs t e
bodied (suc m) l o xs t e = each_tile IsBody (body_grammar (suc m) l o) (λ v k b x. tt) xs t e

-- the tile is a header
abbrev pub IsHeader : Shape → Type 0
IsHeader (version num encoding) = Unit {0}
IsHeader _ = ⊥

pub headed : (o : ℕ) (xs : List ℕ) (t : Tile) → verdict (header_grammar o) xs ≡ tile t → IsHeader t.shape
unfolding header_grammar
headed o xs t e = each_tile IsHeader (header_grammar o) (λ a x b. grind arith) xs t e

-- where this holds of a tile's rank, it ranks above each tile before it
abbrev pub Fresh : List Tile → Shape → Type 0
Fresh ts s = 0 < tile_rank s → list_all (λ (u : Tile). nat_lt (tile_rank u.shape) (tile_rank s)) ts ≡ true

fresh_placed : (ts : List Tile) (s : Shape) → Placed (context_of ts) s → Fresh ts s
fresh_placed ts s e f = grind (arith, common_steps)

fresh_at : (b : Bool) (ts : List Tile) (m l o : ℕ) (d : List ℕ) (t : Tile)
    → verdict (cond b (section_grammar (context_of ts) o) (body_grammar m l o)) d ≡ tile t → Fresh ts t.shape
fresh_at b ts m l o d t e = grind (arith, common_steps, fresh_placed, placed, bodied)

pub fresh : (start : ℕ) (ts : List Tile) (d : List ℕ) (t : Tile) → verdict (grammar start ts) d ≡ tile t → Fresh ts t.shape
fresh start [] d t e = λ h. refl
fresh start (u ∷ ts) d t e = search fresh_at
