-- Tiles are bytes in the textbook form.
use Rattle.wasm_grammar.proofs.Common.{arith, ◌≡◌, Bool, cond, List, [], ◌∷◌, ◌++◌, refl, ℕ, ◌+◌, length, ◌≤◌, None, ◌<◌, ◌&&◌, nat_lt}
use Rattle.wasm_grammar.proofs.Common.{append-nil, Option, zero, suc, ◌-◌, take, drop, nat_le, common_steps, length-take-le, number-used}
use Rattle.wasm_grammar.proofs.Common.{FaultAt, at_offset, magic, agree, MagicAtSection, UnexpectedEof, IsNumber, Ending, fault, Form}
use Rattle.wasm_grammar.proofs.Common.{kind_of, when, Kind, rank_of, wrong_content, Tile, SectionContext, wrong_count, wrong_data, tile}
use Rattle.wasm_grammar.proofs.Common.{check, bytes, section, code_start, code_entry, Shape, final, after, Grammar, accept, u32_field}
use Rattle.wasm_grammar.proofs.Common.{content_grammar, whole_grammar, code_grammar, after_length, after_id, verdict, section_grammar}
use Rattle.wasm_grammar.proofs.Common.{body_grammar}
use Rattle.wasm_grammar.proofs.accepted.Tiles.{made, IsWhole}
use Rattle.wasm_grammar.proofs.parts.Guarded.{Numbered, numbered}
use Rattle.wasm_grammar.proofs.parts.Placed.{Follows, none_when}

-- nothing is wrong before a tile
pub refuse_parts : (e : Option FaultAt) (next : Grammar) (xs : List ℕ) (t : Tile) → verdict (check e next) xs ≡ tile t → (e ≡ None)
    × (verdict next xs ≡ tile t)
unfolding verdict
refuse_parts e next xs t h = grind arith

-- a tile that begins with a number
record NumberParts (next : ℕ → ℕ → Grammar) (t : Tile) : Type 0 where
  pub value : ℕ
  pub field : List ℕ
  pub whole : IsNumber field value
  pub others : List ℕ
  pub rest : Tile
  pub goes_on : verdict (next value (length field)) others ≡ tile rest
  pub is : t ≡ made rest.shape (field ++ rest.bytes)

-- what a tile after a number consists of
number_parts : (o : ℕ) (next : ℕ → ℕ → Grammar) (xs : List ℕ) (t : Tile) → verdict (u32_field o next) xs ≡ tile t → NumberParts next t
number_parts o next xs t h =
    let n : Numbered next xs t = numbered o next xs t h in
    grind (arith, number-used, length-take-le)

-- a tile that begins with n bytes
pub record BytesParts (n : ℕ) (next : List ℕ → Grammar) (t : Tile) : Type 0 where
  pub prefix : List ℕ
  pub size : length prefix ≡ n
  pub others : List ℕ
  pub rest : Tile
  pub goes_on : verdict (next prefix) others ≡ tile rest
  pub is : t ≡ made rest.shape (prefix ++ rest.bytes)

-- what a tile after n bytes consists of, if they are there
bytes_at : (b : Bool) (n : ℕ) (next : List ℕ → Grammar) (xs : List ℕ) (e : Ending) (t : Tile) → nat_le n (length xs) ≡ b
    → cond b (after (take n xs) (verdict (next (take n xs)) (drop n xs))) (final e) ≡ tile t → BytesParts n next t
bytes_at b n next xs e t l h = grind (arith, length-take-le)

-- what a tile after n bytes consists of
pub bytes_parts : (n o : ℕ) (next : List ℕ → Grammar) (xs : List ℕ) (t : Tile) → verdict (bytes n o next) xs ≡ tile t → BytesParts n next t
unfolding verdict
bytes_parts n o next xs t h = bytes_at (nat_le n (length xs)) n next xs _ t refl h

-- a tile that is whole has no more bytes
pub takes_parts : (s : Shape) (xs : List ℕ) (t : Tile) → verdict (accept s) xs ≡ tile t → t ≡ made s []
unfolding verdict
takes_parts s xs t h = cc

-- a tile after bytes with which it ends
pub ends_there : (t u : Tile) (s : Shape) (prefix : List ℕ) → t ≡ made u.shape (prefix ++ u.bytes) → u ≡ made s [] → t ≡ made s prefix
ends_there t u s prefix e f = grind (arith, made, append-nil)

-- a section whose head is right, and what follows it
pub record SectionParts (p : SectionContext) (o : ℕ) (t : Tile) : Type 0 where
  pub id : ℕ
  pub below : id < 128
  pub field : List ℕ
  pub size : ℕ
  pub whole : IsNumber field size
  pub follows : Follows p (rank_of (kind_of p.encoding id) id)
  pub others : List ℕ
  pub rest : Tile
  pub goes_on : verdict (content_grammar p (kind_of p.encoding id) id (o + 1 + length field) size) others ≡ tile rest
  pub is : t ≡ made rest.shape (id ∷ (field ++ rest.bytes))

-- what a section's tile consists of after its id
framed_parts : (p : SectionContext) (o id : ℕ) (xs : List ℕ) (s t : Tile) → verdict (after_id p o id) xs ≡ tile s → t
    ≡ made s.shape (id ∷ s.bytes) → SectionParts p o t
framed_parts p o id xs s t h e =
    let a : ((when (nat_le 128 id) _ ≡ None) × (verdict _ xs ≡ tile s)) = refuse_parts _ _ xs s h in
    let n : NumberParts (λ size width. after_length p (kind_of p.encoding id) id (o + 1) (o + 1 + width) size) s = search number_parts in
    grind (arith, common_steps, refuse_parts, none_when)

-- what a section's tile consists of, if it begins no header
start_at : (b : Bool) (p : SectionContext) (o id : ℕ) (xs : List ℕ) (x : FaultAt) (t : Tile)
    → cond b (final (fault x)) (after (id ∷ []) (verdict (after_id p o id) xs)) ≡ tile t → SectionParts p o t
start_at b p o id xs x t h = grind (arith, framed_parts)

-- what a section's tile consists of
pub section_parts : (p : SectionContext) (o : ℕ) (xs : List ℕ) (t : Tile) → verdict (section_grammar p o) xs ≡ tile t → SectionParts p o t
unfolding verdict section_grammar
section_parts p o [] t h = cc
section_parts p o (id ∷ xs) t h = start_at (agree (id ∷ xs) magic && nat_le 4 (length (id ∷ xs))) p o id xs (at_offset MagicAtSection o) t h

-- a section that is one tile: its content
pub record WholeParts (p : SectionContext) (kind : Form) (id o size : ℕ) (t : Tile) : Type 0 where
  pub content : List ℕ
  pub long : length content ≡ size
  pub right : wrong_content kind o content ≡ None
  pub counted : wrong_data p kind id (o + size) content ≡ None
  pub is : t ≡ made (section kind id content) content

-- the content of a section that is one tile
whole_parts : (p : SectionContext) (kind : Form) (id o size : ℕ) (xs : List ℕ) (t : Tile) → verdict (whole_grammar p kind id o size) xs
    ≡ tile t → WholeParts p kind id o size t
whole_parts p kind id o size xs t h =
    let b : BytesParts size (λ content. check (wrong_content kind o content)
    (check (wrong_data p kind id (o + size) content) (accept (section kind id content)))) t = bytes_parts size o _ xs t h in
    grind (arith, common_steps, refuse_parts, ends_there, takes_parts)

-- the content of a section that is one tile, by its kind
pub content_parts : (p : SectionContext) (kind : Kind) (id o size : ℕ) (xs : List ℕ) (t : Tile) (w : IsWhole kind)
    → verdict (content_grammar p kind id o size) xs ≡ tile t → WholeParts p w.0 id o size t
content_parts p kind id o size xs t w h = grind (arith, whole_parts)

-- a code section up to its count: that count
pub record HeadParts (p : SectionContext) (o size : ℕ) (t : Tile) : Type 0 where
  pub count : ℕ
  pub head : List ℕ
  pub whole : IsNumber head count
  pub fits : length head ≤ size
  pub right : wrong_count p o count ≡ None
  pub is : t ≡ made (code_start count (length head) (size - length head)) head

-- what the head of a code section consists of
pub head_parts : (p : SectionContext) (o size : ℕ) (xs : List ℕ) (t : Tile) → verdict (code_grammar p o size) xs ≡ tile t
    → HeadParts p o size t
head_parts p o size xs t h =
    let n : NumberParts (λ count width. check (when (nat_lt size width) _)
    (check (wrong_count p o count) (accept (code_start count width (size - width))))) t = number_parts o _ xs t h in
    grind (arith, common_steps, refuse_parts, ends_there, takes_parts)

-- a body, in a code section of which m bodies and l bytes remain
pub record BodyParts (m l : ℕ) (t : Tile) : Type 0 where
  pub others : ℕ
  pub missing : m ≡ suc others
  pub field : List ℕ
  pub content : List ℕ
  pub whole : IsNumber field (length content)
  pub fits : length field + length content ≤ l
  pub is : t ≡ made (code_entry content) (field ++ content)

-- what a body consists of
pub body_parts : (m l o : ℕ) (xs : List ℕ) (t : Tile) → verdict (body_grammar m l o) xs ≡ tile t → BodyParts m l t
unfolding body_grammar verdict
body_parts zero l o xs t h = cc
body_parts (suc m) l o xs t h =
    let n : NumberParts (λ size width. check (when (nat_lt l (width + size)) (at_offset UnexpectedEof o))
    (bytes size (o + width) (λ content. accept (code_entry content)))) t = number_parts o _ xs t h in
    grind (arith, common_steps, refuse_parts, bytes_parts, ends_there, takes_parts)
