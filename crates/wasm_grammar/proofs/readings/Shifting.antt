-- The start offset only moves offsets.
use Rattle.wasm_grammar.proofs.Common.{arith, ◌≡◌, ◌⊎◌, inl, Bool, cond, List, [], ◌∷◌, ◌++◌, refl, ap, ℕ, ◌+◌, length, None, not, nat_lt}
use Rattle.wasm_grammar.proofs.Common.{nat_eq, Option, subst, zero, suc, ◌-◌, take, drop, nat_le, length-append, Some, common_steps}
use Rattle.wasm_grammar.proofs.Common.{FaultAt, at_offset, magic, agree, of_four, Number, number, BadMagic, MagicAtSection, UnexpectedEof}
use Rattle.wasm_grammar.proofs.Common.{MalformedSectionId, VarU32, Ending, fault, Form, kind_of, when, Kind, wrong_content, Tile}
use Rattle.wasm_grammar.proofs.Common.{SectionContext, tile, check, bytes, version_of, final, after, Grammar, accept, u32_field}
use Rattle.wasm_grammar.proofs.Common.{after_length, after_id, section_start, Verdict, after_number, reject, body_of, verdict}
use Rattle.wasm_grammar.proofs.Common.{header_grammar, section_grammar, body_grammar, events_of, event_of, shifted_events, bytes_of}
use Rattle.wasm_grammar.proofs.Common.{context_of, bodies_left, bytes_left, grammar, Faultless}
use Rattle.std.proofs.Common.{option_map, subst₂}
use Rattle.std.proofs.lemmas.List.{map-append}
use Rattle.wasm_base.specs.declared.fault.Fault.TheVariants.{SectionTooLarge}
use Rattle.wasm_grammar.specs.Laws.{StartOnlyMoves}
use Rattle.wasm_grammar.specs.Shifted.{shifted_event, shifted_fault, shifted_ending, PassesTheTop}
use Rattle.wasm_grammar.specs.Tiling.{inside}
use Rattle.wasm_grammar.proofs.readings.EndToEnd.{Closes, tile_closes}
use Rattle.wasm_grammar.proofs.readings.Readings.{reads_same}
use Rattle.wasm_grammar.specs.Grammar

-- ---- grammars that differ in their offsets

abbrev pub IsTooLarge : Option FaultAt → Type 0
IsTooLarge None = ⊥
IsTooLarge (Some f) = f.fault ≡ SectionTooLarge

-- the second fault is the first one moved, or a section that passes the top
abbrev pub MovesFault : ℕ → Option FaultAt → Option FaultAt → Type 0
MovesFault by e f = (f ≡ option_map (shifted_fault by) e) ⊎ IsTooLarge f

-- the second grammar is the first one moved, but for sections that pass the top
abbrev pub Like : ℕ → Grammar → Grammar → Type 0
Like by (accept shape) h = h ≡ accept shape
Like by (reject e) h = h ≡ reject (shifted_fault by e)
Like by (check e next) h = (f : Option FaultAt) × (then : Grammar) × (h ≡ check f then) × MovesFault by e f × Like by next then
Like by (u32_field o next) h = (then : ℕ → ℕ → Grammar) × (h ≡ u32_field (o + by) then) × ((v k : ℕ) → Like by (next v k) (then v k))
Like by (bytes count o next) h = (then : List ℕ → Grammar) × (h ≡ bytes count (o + by) then) × ((b : List ℕ) → Like by (next b) (then b))
Like by (section_start o e next) h = (then : ℕ → Grammar) × (h ≡ section_start (o + by) (shifted_ending by e) then)
    × ((id : ℕ) → Like by (next id) (then id))

abbrev moved_verdict : ℕ → Verdict → Verdict
moved_verdict by (tile t) = tile t
moved_verdict by (final e) = final (shifted_ending by e)

abbrev StopsAtTheTop : Verdict → Type 0
StopsAtTheTop (tile t) = ⊥
StopsAtTheTop (final e) = PassesTheTop e

-- the second verdict is the first one moved, or a section that passes the top
abbrev Moves : ℕ → Verdict → Verdict → Type 0
Moves by v w = (w ≡ moved_verdict by v) ⊎ StopsAtTheTop w

number_moves : (by o : ℕ) (next then : ℕ → ℕ → Grammar) (xs : List ℕ)
    → ((v k : ℕ) (zs : List ℕ) → Moves by (verdict (next v k) zs) (verdict (then v k) zs))
    → (n : Number) → Moves by (after_number o xs n (λ v k. verdict (next v k) (drop k xs)))
    (after_number (o + by) xs n (λ v k. verdict (then v k) (drop k xs)))
number_moves by o next then xs ih n = grind arith

start_moves : (by o id : ℕ) (v w : Verdict) → Moves by v w → (b : Bool)
    → Moves by (cond b (final (fault (at_offset MagicAtSection o))) (after (id ∷ []) v))
    (cond b (final (fault (at_offset MagicAtSection (o + by)))) (after (id ∷ []) w))
start_moves by o id v w m b = grind arith

verdict_moves : (by : ℕ) (g h : Grammar) (xs : List ℕ) → Like by g h → Moves by (verdict g xs) (verdict h xs)
unfolding verdict
verdict_moves by (check e next) h xs (f, then, z, m, l) = grind (arith, verdict_moves by next then xs l)
verdict_moves by (u32_field o next) h xs (then, z, l) =
    rw z (number_moves by o next then xs (λ v k zs. verdict_moves by (next v k) (then v k) zs (l v k)) (number VarU32 xs))
verdict_moves by (bytes count o next) h xs (then, z, l) =
    grind (arith, verdict_moves by (next (take count xs)) (then (take count xs)) (drop count xs) (l (take count xs)))
verdict_moves by (section_start o e next) h [] (then, z, l) = grind arith
verdict_moves by (section_start o e next) h (id ∷ xs) (then, z, l) =
    grind (arith, start_moves, verdict_moves by (next id) (then id) xs (l id))
verdict_moves by _ h xs l = inl (ap (λ (x : Grammar). verdict x xs) l)

-- ---- the grammars of a stream

when_moves : (by : ℕ) (t : Bool) (e f : FaultAt) → f ≡ shifted_fault by e → MovesFault by (when t e) (when t f)
when_moves by t e f z = grind arith

content_wrong : (by : ℕ) (kind : Form) (o : ℕ) (content : List ℕ)
    → MovesFault by (wrong_content kind o content) (wrong_content kind (o + by) content)
unfolding wrong_content
content_wrong by kind o content = grind arith

Like-sized : (by : ℕ) (p : SectionContext) (kind : Kind) (id field o n : ℕ)
    → Like by (after_length p kind id field o n) (after_length p kind id (field + by) (o + by) n)
Like-sized by p kind id field o n = grind (arith, content_wrong)

Like-framed : (by : ℕ) (p : SectionContext) (o id : ℕ) → Like by (after_id p o id) (after_id p (o + by) id)
Like-framed by p o id = (
  _,
  _,
  refl,
  when_moves by (nat_le 128 id) (at_offset MalformedSectionId o) (at_offset MalformedSectionId (o + by)) refl,
  (
    λ size width. after_length p (kind_of p.encoding id) id (o + by + 1) (o + by + 1 + width) size,
    ap (λ (x : ℕ). u32_field x (λ size width. after_length p (kind_of p.encoding id) id (o + by + 1) (o + by + 1 + width) size))
        (omega arith),
    λ size width. subst₂ (λ (f c : ℕ). Like by (after_length p (kind_of p.encoding id) id (o + 1) (o + 1 + width) size)
        (after_length p (kind_of p.encoding id) id f c size)) (omega arith) (omega arith)
        (Like-sized by p (kind_of p.encoding id) id (o + 1) (o + 1 + width) size),
  ),
)

Like-section : (by : ℕ) (p : SectionContext) (o : ℕ) → Like by (section_grammar p o) (section_grammar p (o + by))
unfolding section_grammar
Like-section by p o = (
  after_id p (o + by),
  ap (λ (x : Ending). section_start (o + by) x (after_id p (o + by))) (grind arith),
  λ id.
      Like-framed by p o id,
)

Like-body_of : (by o code_bytes n width : ℕ) → Like by (body_of o code_bytes n width) (body_of (o + by) code_bytes n width)
Like-body_of by o code_bytes n width = (
  _,
  _,
  refl,
  when_moves by (nat_lt code_bytes (width + n)) (at_offset UnexpectedEof o) (at_offset UnexpectedEof (o + by)) refl,
  (_, ap (λ (x : ℕ). bytes n x (λ content. accept (Grammar.code_entry content))) (omega arith), λ content. refl),
)

Like-body : (by bodies code_bytes o : ℕ) → Like by (body_grammar bodies code_bytes o) (body_grammar bodies code_bytes (o + by))
unfolding body_grammar
Like-body by zero code_bytes o = refl
Like-body by (suc bodies) code_bytes o = (_, refl, λ n width. Like-body_of by o code_bytes n width)

Like-header : (by o : ℕ) → Like by (header_grammar o) (header_grammar (o + by))
unfolding header_grammar
Like-header by o = (
  _,
  refl,
  λ first. (
    _,
    _,
    refl,
    when_moves by (not (agree first magic)) (at_offset BadMagic o) (at_offset BadMagic (o + by)) refl,
    (
      λ four. version_of (o + by) (of_four four),
      ap (λ (x : ℕ). bytes 4 x (λ four. version_of (o + by) (of_four four))) (omega arith),
      λ four. grind arith,
    ),
  ),
)

Like-inside : (by : ℕ) (b : Bool) (p : SectionContext) (bodies code_bytes o : ℕ)
    → Like by (cond b (section_grammar p o) (body_grammar bodies code_bytes o))
    (cond b (section_grammar p (o + by)) (body_grammar bodies code_bytes (o + by)))
Like-inside by b p bodies code_bytes o = grind (arith, Like-section, Like-body)

Like-grammar : (by start : ℕ) (ts : List Tile) → Like by (grammar start ts) (grammar (start + by) ts)
Like-grammar by start [] = Like-header by start
Like-grammar by start (t ∷ ts) =
    subst (λ (o : ℕ). Like by (inside (context_of (t ∷ ts)) (bodies_left (t ∷ ts)) (bytes_left (t ∷ ts))
    (start + length (bytes_of (t ∷ ts)))) (inside (context_of (t ∷ ts)) (bodies_left (t ∷ ts)) (bytes_left (t ∷ ts)) o)) (omega arith)
    (Like-inside by (nat_eq (bodies_left (t ∷ ts) + bytes_left (t ∷ ts)) 0) (context_of (t ∷ ts)) (bodies_left (t ∷ ts))
    (bytes_left (t ∷ ts)) (start + length (bytes_of (t ∷ ts))))

-- ---- readings

tile_back : (by : ℕ) (v w : Verdict) (t : Tile) → Moves by v w → w ≡ tile t → v ≡ tile t
tile_back by v w t h e = grind arith

record Back (by : ℕ) (v : Verdict) (y : Ending) : Type 0 where
  end : Ending
  stops : v ≡ final end
  is : y ≡ shifted_ending by end

final_back : (by : ℕ) (v w : Verdict) (y : Ending) → ¬ PassesTheTop y → Moves by v w → w ≡ final y → Back by v y
final_back by v w y n h e = grind arith

faultless_back : (by start : ℕ) (ts : List Tile) → Faultless (start + by) ts → Faultless start ts
faultless_back by start [] f = tt
faultless_back by start (t ∷ ts) f = (
  faultless_back by start ts f.0,
  tile_back by (verdict (grammar start ts) t.bytes) (verdict (grammar (start + by) ts) t.bytes) t
      (search (verdict_moves, Like-grammar)) f.1,
)

-- ---- what is reported

content_place : (by low high : ℕ) (passed before content : List ℕ) → high ≡ low + length passed → passed ≡ before ++ content
    → high + by - length content ≡ (high - length content) + by
content_place by low high passed before content h c = grind (arith, length-append)

event_moves : (by features o : ℕ) (t : Tile) → Closes t.shape t.bytes → event_of features (o + by) t
    ≡ shifted_event by (event_of features o t)
event_moves by features o t c = grind (arith, common_steps, content_place)

events_move : (by start features : ℕ) (ts : List Tile) → Faultless start ts → events_of (start + by) features ts
    ≡ shifted_events by (events_of start features ts)
events_move by start features [] f = refl
events_move by start features (t ∷ ts) f = grind (arith, event_moves, tile_closes, map-append, events_move by start features ts f.0)

pub start_only_moves : StartOnlyMoves
start_only_moves stream start by features xs ys x y n =
    let b : Back by (verdict (grammar start y.tiles) y.reads.rest) y.end = search (final_back, verdict_moves, Like-grammar) in
    let (tiles, end) = reads_same stream start y.tiles x.tiles b.end x.end (grind (arith, faultless_back)) x.reads in
    grind (arith, events_move, map-append)
