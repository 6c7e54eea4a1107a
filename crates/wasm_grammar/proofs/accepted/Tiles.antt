-- Bytes in the textbook form are tiles.
use Rattle.wasm_grammar.proofs.Common.{arith, ◌≡◌, ◌⊎◌, inl, inr, Bool, true, false, List, [], ◌∷◌, ◌++◌, refl, ap, ℕ, ◌+◌, length, ◌≤◌}
use Rattle.wasm_grammar.proofs.Common.{None, ◌<◌, ◌&&◌, nat_lt, append-nil, lt-ltb, Option, subst, suc, ◌-◌, nat_le, length-append, ◌^◌}
use Rattle.wasm_grammar.proofs.Common.{Some, le-leb, take_at, drop_at, number-used, number-more, FaultAt, magic, agree, named, name, read}
use Rattle.wasm_grammar.proofs.Common.{number, VarU32, IsNumber, header_bytes, Ending, Form, kind_of, whole, when, Kind, code, rank_of}
use Rattle.wasm_grammar.proofs.Common.{wrong_content, Tile, SectionContext, wrong_count, wrong_data, version, tile, check, bytes, section}
use Rattle.wasm_grammar.proofs.Common.{code_start, code_entry, Shape, Grammar, accept, u32_field, content_grammar, whole_grammar, after_id}
use Rattle.wasm_grammar.proofs.Common.{section_start, verdict, header_grammar, section_grammar, body_grammar, code_id, custom_id, Encoding}
use Rattle.wasm_grammar.proofs.Common.{Module, Component}
use Rattle.std.proofs.Common.{le-ltb}
use Rattle.wasm_base.specs.Name.{name_limit}
use Rattle.wasm_grammar.proofs.parts.Guarded.{one_byte}
use Rattle.wasm_grammar.proofs.parts.Placed.{Follows}

-- a tile of this shape with these bytes
abbrev pub made : Shape → List ℕ → Tile
made s b = record { shape = s; bytes = b }

-- a number's field keeps its value, whatever follows
pub number_on : (field rest : List ℕ) (v : ℕ) → IsNumber field v → number VarU32 (field ++ rest) ≡ read v (length field)
number_on field rest v e = grind (arith, number-more)

-- a number, and then a tile
number_tile : (o : ℕ) (next : ℕ → ℕ → Grammar) (field rest : List ℕ) (v : ℕ) (s : Shape) (b : List ℕ) → IsNumber field v
    → verdict (next v (length field)) rest ≡ tile (made s b) → verdict (u32_field o next) (field ++ rest) ≡ tile (made s (field ++ b))
unfolding verdict
number_tile o next field rest v s b e h = grind (arith, number_on, take_at, drop_at)

-- n bytes, and then a tile
bytes_tile : (n o : ℕ) (next : List ℕ → Grammar) (prefix rest : List ℕ) (s : Shape) (b : List ℕ) → length prefix ≡ n
    → verdict (next prefix) rest ≡ tile (made s b) → verdict (bytes n o next) (prefix ++ rest) ≡ tile (made s (prefix ++ b))
unfolding verdict
bytes_tile n o next prefix rest s b len h = grind (arith, le-leb, length-append, take_at, drop_at)

-- nothing is wrong, and then a tile
refuse_tile : (e : Option FaultAt) (next : Grammar) (xs : List ℕ) (t : Tile) → e ≡ None → verdict next xs ≡ tile t
    → verdict (check e next) xs ≡ tile t
unfolding verdict
refuse_tile e next xs t z h = cc

-- a test that fails, and then a tile
when_tile : (b : Bool) (e : FaultAt) (next : Grammar) (xs : List ℕ) (t : Tile) → b ≡ false → verdict next xs ≡ tile t
    → verdict (check (when b e) next) xs ≡ tile t
when_tile b e next xs t z h = refuse_tile (when b e) next xs t (ap (λ (x : Bool). when x e) z) h

-- an id that begins no header, and then a tile
start_tile : (o : ℕ) (e : Ending) (next : ℕ → Grammar) (id : ℕ) (xs : List ℕ) (s : Shape) (b : List ℕ)
    → (agree (id ∷ xs) magic && nat_le 4 (length (id ∷ xs))) ≡ false
    → verdict (next id) xs ≡ tile (made s b) → verdict (section_start o e next) (id ∷ xs) ≡ tile (made s (id ∷ b))
unfolding verdict
start_tile o e next id xs s b m h = rw m (rw h refl)

-- a tile that is whole has no more bytes
takes_tile : (s : Shape) (xs : List ℕ) → verdict (accept s) xs ≡ tile (made s [])
unfolding verdict
takes_tile s xs = refl

-- nothing follows
all_of_it : (g : Grammar) (s : Shape) (xs : List ℕ) → verdict g (xs ++ []) ≡ tile (made s (xs ++ [])) → verdict g xs ≡ tile (made s xs)
all_of_it g s xs h = subst (λ (x : List ℕ). verdict g x ≡ tile (made s x)) (append-nil xs) h

-- content with no fault is a tile
whole_tile : (p : SectionContext) (kind : Form) (id o : ℕ) (content : List ℕ) → wrong_content kind o content ≡ None
    → wrong_data p kind id (o + length content) content ≡ None
    → verdict (whole_grammar p kind id o (length content)) content ≡ tile (made (section kind id content) content)
whole_tile p kind id o content a b = search (all_of_it, bytes_tile, refuse_tile, takes_tile)

-- a section that is one tile
abbrev pub IsWhole : Kind → Type 0
IsWhole kind = (form : Form) × (kind ≡ whole form)

-- each section is one tile, or a code section
pub whole_or_code : (k : Kind) → IsWhole k ⊎ (k ≡ code)
whole_or_code (whole form) = inl (form, refl)
whole_or_code code = inr refl

pub not_code : (form : Form) → whole form ≡ code → ⊥
not_code form e = cc

pub same_form : (one other : Form) → whole one ≡ whole other → one ≡ other
same_form one other e = cc

-- content with no fault is a tile, by the kind of its section
content_tile : (p : SectionContext) (kind : Kind) (id o : ℕ) (content : List ℕ) (w : IsWhole kind) → wrong_content w.0 o content ≡ None
    → wrong_data p w.0 id (o + length content) content ≡ None
    → verdict (content_grammar p kind id o (length content)) content ≡ tile (made (section w.0 id content) content)
content_tile p kind id o content w a b = grind (arith, whole_tile)

-- what comes before a section's content is right
pub record HeadIsRight (p : SectionContext) (o id : ℕ) (field : List ℕ) (size : ℕ) : Type 0 where
  pub below : id < 128
  pub number : IsNumber field size
  pub room : o + 1 + length field + size < 2 ^ 64
  pub follows : Follows p (rank_of (kind_of p.encoding id) id)

-- a right prefix, and then a tile
framed_tile : (p : SectionContext) (o id : ℕ) (field : List ℕ) (size : ℕ) (xs : List ℕ) (s : Shape) → HeadIsRight p o id field size
    → (agree (id ∷ (field ++ xs)) magic && nat_le 4 (length (id ∷ (field ++ xs)))) ≡ false
    → verdict (content_grammar p (kind_of p.encoding id) id (o + 1 + length field) size) xs ≡ tile (made s xs)
    → verdict (section_grammar p o) (id ∷ (field ++ xs)) ≡ tile (made s (id ∷ (field ++ xs)))
unfolding section_grammar
framed_tile p o id field size xs s f m h =
    start_tile o _ (after_id p o) id (field ++ xs) s (field ++ xs) m
    (when_tile (nat_le 128 id) _ _ (field ++ xs) _ (small id f.below)
    (number_tile (o + 1) _ field xs size s xs f.number
    (when_tile (nat_lt (2 ^ 64 - 1) (o + 1 + length field + size)) _ _ xs _ (fits (o + 1 + length field + size) f.room)
    (search when_tile))))
  where
    small : (n : ℕ) → n < 128 → nat_le 128 n ≡ false
    small n h = grind arith

    fits : (n : ℕ) → n < 2 ^ 64 → nat_lt (2 ^ 64 - 1) n ≡ false
    fits n h = grind arith

-- a section's content that begins as the end of the magic is no name
magic_content : (content text : List ℕ) (used : ℕ) → length content ≡ 0x61 → agree content (0x73 ∷ 0x6d ∷ []) ≡ true
    → name (Some name_limit) content ≡ named text used → ⊥
unfolding name number
magic_content [] text used l a e = absurd (omega arith)
magic_content (y ∷ ys) text used l a e = grind (arith, lt-ltb)

-- a section whose length and content begin as the magic goes on has no name
magic_field : (field content text : List ℕ) (used : ℕ) → IsNumber field (length content)
    → agree (field ++ content) (0x61 ∷ 0x73 ∷ 0x6d ∷ []) ≡ true → name (Some name_limit) content ≡ named text used → ⊥
magic_field [] content text used e a n = grind (arith, number-used)
magic_field (x ∷ []) content text used e a n = grind (arith, one_byte, magic_content)
magic_field (x ∷ y ∷ field) content text used e a n = grind (arith, one_byte)

-- a good section begins no header
pub no_magic : (id : ℕ) (field content : List ℕ) → IsNumber field (length content)
    → (id ≡ custom_id → (text : List ℕ) × (used : ℕ) × (name (Some name_limit) content ≡ named text used))
    → (agree (id ∷ (field ++ content)) magic && nat_le 4 (length (id ∷ (field ++ content)))) ≡ false
no_magic id field content e n = grind (arith, magic_field)

-- a section that is one tile
pub section_tile : (p : SectionContext) (o id : ℕ) (field content : List ℕ) → HeadIsRight p o id field (length content)
    → (w : IsWhole (kind_of p.encoding id))
    → (id ≡ custom_id → (text : List ℕ) × (used : ℕ) × (name (Some name_limit) content ≡ named text used))
    → ((at : ℕ) → wrong_content w.0 at content ≡ None) → ((at : ℕ) → wrong_data p w.0 id at content ≡ None)
    → verdict (section_grammar p o) (id ∷ (field ++ content)) ≡ tile (made (section w.0 id content) (id ∷ (field ++ content)))
section_tile p o id field content f w n a b = search (framed_tile, no_magic, content_tile)

-- a code section up to its count
pub code_head_tile : (p : SectionContext) (o size count : ℕ) (field head : List ℕ) → HeadIsRight p o 10 field size
    → kind_of p.encoding code_id
    ≡ code → IsNumber head count → length head ≤ size
    → ((at : ℕ) → wrong_count p at count ≡ None)
    → verdict (section_grammar p o) (10 ∷ (field ++ head)) ≡ tile
    (made (code_start count (length head) (size - length head)) (10 ∷ (field ++ head)))
code_head_tile p o size count field head f k e l w =
    framed_tile p o 10 field size head (code_start count (length head) (size - length head)) f refl
    (rw k (search (all_of_it, number_tile, when_tile, le-ltb, refuse_tile, takes_tile)))

-- a body
pub body_tile : (m l o : ℕ) (field content : List ℕ) → IsNumber field (length content) → length field + length content ≤ l
    → verdict (body_grammar (suc m) l o) (field ++ content) ≡ tile (made (code_entry content) (field ++ content))
unfolding body_grammar
body_tile m l o field content e h = search (number_tile, when_tile, le-ltb, all_of_it, bytes_tile, takes_tile)

-- the version of an encoding
abbrev pub header_version : Encoding → ℕ
header_version Module = 1
header_version Component = 13

-- a header
pub header_tile : (o : ℕ) (encoding : Encoding) → verdict (header_grammar o) (header_bytes encoding)
    ≡ tile (made (version (header_version encoding) encoding) (header_bytes encoding))
unfolding verdict header_grammar
header_tile o encoding = grind arith
