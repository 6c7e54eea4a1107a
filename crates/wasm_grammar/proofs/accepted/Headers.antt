-- The header's tile has the header's bytes.
use Rattle.wasm_grammar.proofs.Common.{arith, ◌≡◌, true, List, [], ◌∷◌, ◌++◌, refl, ℕ, ◌+◌, length, None, ◌<◌, not, nat_eq, eqb-true}
use Rattle.wasm_grammar.proofs.Common.{Option, and_parts, All, at_offset, magic, agree, of_four, BadMagic, header_bytes, when, Tile}
use Rattle.wasm_grammar.proofs.Common.{version, tile, check, bytes, version_of, verdict, header_grammar, Encoding, Module, Component}
use Rattle.std.proofs.Common.{◌/◌, ◌%◌}
use Rattle.std.proofs.lemmas.Bool.{not-false}
use Rattle.wasm_grammar.specs.Grammar.{header_of, encoding_named}
use Rattle.wasm_grammar.proofs.accepted.Parts.{BytesParts, bytes_parts, refuse_parts, ends_there}
use Rattle.wasm_grammar.proofs.accepted.Tiles.{made, header_version}
use Rattle.wasm_grammar.proofs.parts.Placed.{none_when}

-- the 32 bits after the magic
abbrev pub header_bits : Encoding → ℕ
header_bits Module = 1
header_bits Component = 65549

-- the four bytes after the magic
abbrev pub last_four : Encoding → List ℕ
last_four Module = 0x01 ∷ 0x00 ∷ 0x00 ∷ 0x00 ∷ []
last_four Component = 0x0d ∷ 0x00 ∷ 0x01 ∷ 0x00 ∷ []

-- a header's tile after its bits
of_header : (o bits : ℕ) (e : Option Encoding) (xs : List ℕ) (t : Tile) → encoding_named (bits % 65536) (bits / 65536) ≡ e
    → verdict (header_of o bits e) xs ≡ tile t
    → (encoding : Encoding) × (bits ≡ header_bits encoding) × (t ≡ made (version (header_version encoding) encoding) [])
unfolding verdict
of_header o bits e xs t m h = grind arith

-- lists of one length that agree are one
agree_whole : (xs ys : List ℕ) → length xs ≡ length ys → agree xs ys ≡ true → xs ≡ ys
agree_whole [] [] l e = refl
agree_whole (x ∷ xs) (y ∷ ys) l e =
    let q : ((nat_eq x y ≡ true) × (agree xs ys ≡ true)) = and_parts _ _ e in
    grind (arith, eqb-true, agree_whole xs ys (omega arith) q.1)
agree_whole _ _ l e = absurd (omega arith)

-- four bytes
four_parts : (xs : List ℕ) → length xs ≡ 4 → (a : ℕ) × (b : ℕ) × (c : ℕ) × (d : ℕ) × (xs ≡ a ∷ b ∷ c ∷ d ∷ [])
four_parts (a ∷ b ∷ c ∷ d ∷ []) l = (a, b, c, d, refl)
four_parts _ l = absurd (omega arith)

-- what a header's tile is
pub record HeaderParts (t : Tile) : Type 0 where
  pub encoding : Encoding
  pub is : t ≡ made (version (header_version encoding) encoding) (header_bytes encoding)

-- a header's tile is a header
pub header_parts : (o : ℕ) (xs : List ℕ) (t : Tile) → All (λ b. b < 256) t.bytes → verdict (header_grammar o) xs ≡ tile t → HeaderParts t
unfolding header_grammar
header_parts o xs t each h =
    let m : BytesParts 4 (λ prefix. check (when (not (agree prefix magic)) (at_offset BadMagic o))
    (bytes 4 (o + 4) (λ four. version_of o (of_four four)))) t = bytes_parts 4 o _ xs t h in
    let a : ((when (not (agree m.prefix magic)) (at_offset BadMagic o) ≡ None)
    × (verdict (bytes 4 (o + 4) (λ four. version_of o (of_four four))) m.others ≡ tile m.rest)) = search refuse_parts in
    let z : m.prefix ≡ magic = search (agree_whole, not-false, none_when) in
    let f : BytesParts 4 (λ four. version_of o (of_four four)) m.rest = bytes_parts 4 (o + 4) _ m.others m.rest a.1 in
    let (encoding, b, r) = of_header o (of_four f.prefix) (encoding_named (of_four f.prefix % 65536) (of_four f.prefix / 65536)) f.others
    f.rest refl f.goes_on in
    let u : m.rest ≡ made (version (header_version encoding) encoding) f.prefix = search ends_there in
    let w : t ≡ made (version (header_version encoding) encoding) (magic ++ f.prefix) = grind (arith, header_version) in
    let e : All (λ b. b < 256) (magic ++ f.prefix) = rw w at each in
    let l : f.prefix ≡ last_four encoding = grind (arith, four_parts) in
    grind arith
