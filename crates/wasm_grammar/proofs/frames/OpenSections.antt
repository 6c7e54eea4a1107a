-- Tiles one after the other are whole sections, or whole sections and a prefix of a code section.
use Rattle.wasm_grammar.proofs.Common.{arith, ◌≡◌, ◌⊎◌, inl, inr, Bool, true, false, cond, List, [], ◌∷◌, refl, ℕ, ◌+◌, length, ◌<◌, nat_eq}
use Rattle.wasm_grammar.proofs.Common.{All, kind_of, code, Tile, tile, verdict, section_grammar, body_grammar, bytes_of, context_of}
use Rattle.wasm_grammar.proofs.Common.{bodies_left, bytes_left, encoding_of, grammar, Faultless}
use Rattle.wasm_grammar.proofs.PlainLists.{all_prefix}
use Rattle.wasm_grammar.proofs.accepted.Parts.{SectionParts, section_parts, BodyParts, body_parts}
use Rattle.wasm_grammar.proofs.accepted.Tiles.{IsWhole, whole_or_code}

-- a code section misses no body and no byte
abbrev pub misses_nothing : List Tile → Bool
misses_nothing ts = nat_eq (bodies_left ts + bytes_left ts) 0

-- What holds of tiles that are whole sections, and what of those that end in a code section, goes on with each tile.
pub record Goes (start : ℕ) (Closed Open : List Tile → Type 0) : Type 0 where
  pub header : (t : Tile) → All (λ b. b < 256) t.bytes → verdict (grammar start []) t.bytes ≡ tile t → Closed (t ∷ [])
  pub section : (u : Tile) (ts : List Tile) (o : ℕ) (t : Tile) → verdict (grammar start (u ∷ ts)) t.bytes ≡ tile t → Closed (u ∷ ts)
      → (s : SectionParts (context_of (u ∷ ts)) o t)
      → IsWhole (kind_of (encoding_of (u ∷ ts)) s.id) → Closed (t ∷ u ∷ ts)
  pub start_of_code : (u : Tile) (ts : List Tile) (o : ℕ) (t : Tile) → verdict (grammar start (u ∷ ts)) t.bytes ≡ tile t → Closed (u ∷ ts)
      → (s : SectionParts (context_of (u ∷ ts)) o t)
      → kind_of (encoding_of (u ∷ ts)) s.id ≡ code → Open (t ∷ u ∷ ts)
  pub body : (u : Tile) (ts : List Tile) (t : Tile) → verdict (grammar start (u ∷ ts)) t.bytes ≡ tile t → Open (u ∷ ts)
      → BodyParts (bodies_left (u ∷ ts)) (bytes_left (u ∷ ts)) t → Open (t ∷ u ∷ ts)
  pub closes : (ts : List Tile) → Open ts → misses_nothing ts ≡ true → Closed ts
  pub closed : (ts : List Tile) → Closed ts → misses_nothing ts ≡ true

module _ (start : ℕ) (Closed Open : List Tile → Type 0) (g : Goes start Closed Open) where
  -- tiles at the end of a section are whole sections
  pub closed_at : (ts : List Tile) → Closed ts ⊎ Open ts → misses_nothing ts ≡ true → Closed ts
  closed_at ts (inl q) e = q
  closed_at ts (inr q) e = g.closes ts q e

  -- one tile more
  step : (u : Tile) (ts : List Tile) (t : Tile) → verdict (grammar start (u ∷ ts)) t.bytes ≡ tile t → Closed (u ∷ ts) ⊎ Open (u ∷ ts)
      → (b : Bool) → misses_nothing (u ∷ ts) ≡ b → (o : ℕ)
      → verdict (cond b (section_grammar (context_of (u ∷ ts)) o) (body_grammar (bodies_left (u ∷ ts)) (bytes_left (u ∷ ts)) o))
      t.bytes
      ≡ tile t → Closed (t ∷ u ∷ ts) ⊎ Open (t ∷ u ∷ ts)
  step u ts t h q true e o v =
      let c : Closed (u ∷ ts) = closed_at (u ∷ ts) q e in
      let s : SectionParts (context_of (u ∷ ts)) o t = section_parts (context_of (u ∷ ts)) o t.bytes t v in
      elim (whole_or_code (kind_of (encoding_of (u ∷ ts)) s.id)) [
        | inl w ↦ inl (g.section u ts o t h c s w)
        | inr k ↦ inr (g.start_of_code u ts o t h c s k)
      ]
  step u ts t h (inl q) false e o v = grind arith
  step u ts t h (inr q) false e o v = grind (arith, body_parts)

  -- tiles of bytes are whole sections, or whole sections and a prefix of a code section
  pub sections_of_tiles : (t : Tile) (ts : List Tile) → Faultless start (t ∷ ts) → All (λ b. b < 256) (bytes_of (t ∷ ts)) → Closed (t ∷ ts)
      ⊎ Open (t ∷ ts)
  sections_of_tiles t [] f a = inl (g.header t a f.1)
  sections_of_tiles t (u ∷ ts) f a =
      step u ts t f.1 (sections_of_tiles u ts f.0 (all_prefix (λ b. b < 256) (bytes_of (u ∷ ts)) t.bytes a)) (misses_nothing (u ∷ ts)) refl
      (start + length (bytes_of (u ∷ ts))) f.1
