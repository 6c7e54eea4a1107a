-- What is skipped by its first fields is the next tile of every stream that goes on with them.
use Rattle.wasm_frames.proofs.Common.{◌≡◌, ℕ, ◌+◌, ◌^◌, ◌<◌, ◌≤◌, Bool, true, false, List, [], ◌∷◌, ◌++◌, length, refl, sym, ap}
use Rattle.wasm_frames.proofs.Common.{subst, ◌∙◌, arith, length-append, append-nil, nat_eq, cond, zero, suc, ◌-◌}
use Rattle.wasm_frames.proofs.Common.{take, drop, Some, None, nat_le, le-leb, Option, length-take-le, number-used, FaultAt}
use Rattle.wasm_frames.proofs.Common.{at_offset, magic, agree, name_limit, number, read, Place, place, Window, window_over, UnexpectedEof}
use Rattle.wasm_frames.proofs.Common.{VarU32, fault}
use Rattle.wasm_frames.proofs.Common.{items, index, data_count, Form, Kind, custom, unknown, kind_of, wrong_content, Tile, tile, final}
use Rattle.wasm_frames.proofs.Common.{Ending, Grammar, Shape, SectionContext, accept, check, u32_field, bytes, whole_grammar, wrong_data}
use Rattle.wasm_frames.proofs.Common.{content_grammar, section, code_entry, verdict, body_grammar, when}
use Rattle.wasm_frames.proofs.Common.{section_grammar, tile_report, Report, section_report, inside, ParserState, grammar_of, known_context}
use Rattle.wasm_frames.proofs.Common.{Skip}
use Rattle.wasm_frames.proofs.Common.{SkipsPart, skip_in, state_after}
use Rattle.std.proofs.Common.{leb-true, leb-false}
use Rattle.std.proofs.lemmas.Bool.{lt-leb}
use Rattle.std.specs.Prelude.{option_map}
use Rattle.std.proofs.Math.Seq.{take-append-add}
use Rattle.std.proofs.lemmas.List.{take-append-le, drop-append-le, length-drop}
use Rattle.wasm_base.proofs.NumberLaws.{number-more}
use Rattle.wasm_base.specs.Name.{Name, named, refused, name}
use Rattle.wasm_base.specs.Number.{Number, bad, short}
use Rattle.wasm_frames.specs.Cuts.{Cuts}
use Rattle.wasm_frames.specs.SkipNext.{CanPass, Head, body, cut_part, head_in, part_of, report_with, skip_of, so_far}
use Rattle.wasm_grammar.specs.Content.{whole, code}
use Rattle.wasm_grammar.specs.Cut.{Cut, cut_content, form_grows, may_grow}
unfoldable use Rattle.wasm_grammar.specs.Cut.{cut}
use Rattle.wasm_grammar.specs.Grammar.{section_start}
use Rattle.wasm_grammar.specs.Reading.{code_entry as body_report}
use Rattle.wasm_grammar.proofs.parts.Verdicts.{agree-more}
use Rattle.wasm_frames.proofs.CutParts.{code_cut}

-- Whatever bytes come after these, the grammar has a tile of this many bytes if there are enough, and otherwise a fault
-- at this offset.
pub record Skips (g : Grammar) (xs : List ℕ) (size content : ℕ) (Says : Shape → Type 0) : Type 0 where
  pub whole : (ys : List ℕ) → size ≤ length (xs ++ ys) → (t : Tile) × (verdict g (xs ++ ys) ≡ tile t) × (length t.bytes ≡ size)
      × Says t.shape
  pub short : (ys : List ℕ) → length (xs ++ ys) < size → verdict g (xs ++ ys) ≡ final (fault (at_offset UnexpectedEof content))

pub skips_check : (e : Option FaultAt) (next : Grammar) (xs : List ℕ) (size content : ℕ) (Says : Shape → Type 0) → e ≡ None
    → Skips next xs size content Says → Skips (check e next) xs size content Says
unfolding verdict
skips_check e next xs size content Says n s = rw n (record { whole = s.whole; short = s.short })

-- a number is the same, whatever comes after its bytes
pub same_number : (xs ys : List ℕ) (value used : ℕ) → number VarU32 xs ≡ read value used → number VarU32 (xs ++ ys) ≡ read value used
same_number xs ys value used n = grind (arith, number-more)

number_fits : (xs : List ℕ) (value used : ℕ) → number VarU32 xs ≡ read value used → used ≤ length xs
number_fits xs value used n = grind (arith, number-used)

pub skips_number : (offset : ℕ) (next : ℕ → ℕ → Grammar) (xs : List ℕ) (value used size content : ℕ) (Says : Shape → Type 0)
    → number VarU32 xs ≡ read value used → Skips (next value used) (drop used xs) size content Says
    → Skips (u32_field offset next) xs (used + size) content Says
unfolding verdict
skips_number offset next xs value used size content Says n s =
    let k = number_fits xs value used n in
    let m : (ys : List ℕ) → number VarU32 (xs ++ ys) ≡ read value used = λ ys. same_number xs ys value used n in
    let d : (ys : List ℕ) → drop used (xs ++ ys) ≡ drop used xs ++ ys = λ ys. drop-append-le used xs ys k in
    record {
      whole = λ ys l.
          let w : length (take used (xs ++ ys)) ≡ used = length-take-le used (xs ++ ys) (omega (arith, length-append xs ys, k)) in
          let (t, v, size_is, says) = s.whole ys (omega (
            arith,
            l,
            length-append xs ys,
            length-append (drop used xs) ys,
            length-drop used xs,
            k,
          )) in (
            record t { bytes = take used (xs ++ ys) ++ t.bytes },
            rw (m ys, d ys, v) refl,
            length-append (take used (xs ++ ys)) t.bytes ∙ (λ i. w i + size_is i),
            says,
          );
      short = λ ys l. grind (arith, m ys, d ys, length-append, length-drop);
    }

pub skips_id : (offset id : ℕ) (e : _) (next : ℕ → Grammar) (xs : List ℕ) (size content : ℕ) (Says : Shape → Type 0)
    → agree (id ∷ xs) magic ≡ false → Skips (next id) xs size content Says
    → Skips (section_start offset e next) (id ∷ xs) (suc size) content Says
unfolding verdict
skips_id offset id e next xs size content Says a s =
    let b : (ys : List ℕ) → agree (id ∷ (xs ++ ys)) magic ≡ false = λ ys. agree-more (id ∷ xs) ys magic a in
    record {
      whole = λ ys l.
          let (t, v, size_is, says) = s.whole ys (omega (arith, l)) in
          (record t { bytes = id ∷ t.bytes }, rw (b ys, v) refl, ap suc size_is, says);
      short = λ ys l. grind (arith, b ys, length-append);
    }

-- the rest of content of which these are the first bytes
cut_take : (size : ℕ) (xs ys : List ℕ) → length xs < size → take size (xs ++ ys) ≡ xs ++ take (size - length xs) ys
cut_take size xs ys l =
    let n : length xs + (size - length xs) ≡ size = omega (arith, l) in rw n at (take-append-add xs ys (size - length xs))

pub skips_content : (size offset : ℕ) (next : List ℕ → Grammar) (xs : List ℕ) (Says : Shape → Type 0) → length xs < size
    → ((zs : List ℕ) → length (xs ++ zs) ≡ size → (shape : Shape) × ((rest : List ℕ) → verdict (next (xs ++ zs)) rest
    ≡ tile (record { shape = shape; bytes = [] })) × Says shape)
    → Skips (bytes size offset next) xs size offset Says
unfolding verdict
skips_content size offset next xs Says l f = record {
  whole = λ ys m.
      let t = cut_take size xs ys l in
      let (shape, is, says) = f (take (size - length xs) ys) (rw (← t) (length-take-le size (xs ++ ys) m)) in
      let v = rw (← t) at (is (drop size (xs ++ ys))) in (
        record { shape = shape; bytes = take size (xs ++ ys) ++ [] },
        rw (le-leb size (length (xs ++ ys)) m, v) refl,
        ap (λ (x : List ℕ). length x) (append-nil (take size (xs ++ ys))) ∙ length-take-le size (xs ++ ys) m,
        says,
      );
  short = λ ys m. grind (arith, leb-true);
}

-- ---- the first fields of content

-- a name is the same, whatever comes after its bytes
same_name : (xs ys text : List ℕ) (used : ℕ) → name (Some name_limit) xs ≡ named text used
    → name (Some name_limit) (xs ++ ys) ≡ named text used
unfolding name
same_name xs ys text used n = grind (arith, number_fits, same_number, drop-append-le, length-append, take-append-le)

-- a part with content of this size at an offset
abbrev sized : (offset size : ℕ) → Head → Skip
sized offset size head = record { from = offset; to = offset + size; head = head }

-- the first fields of content of this form, at this offset
abbrev head_of : (features offset : ℕ) → Form → (id : ℕ) → List ℕ → Head
head_of features offset form id xs = head_in (section_report features offset (offset + length xs) form id xs)

-- what content that goes on with these bytes is: right, and with the same first fields
record Fields (context : SectionContext) (features offset : ℕ) (form : Form) (id : ℕ) (xs zs : List ℕ) : Type 0 where
  right : wrong_content form offset (xs ++ zs) ≡ None
  counts : wrong_data context form id (offset + length (xs ++ zs)) (xs ++ zs) ≡ None
  says : skip_in (section_report features offset (offset + length (xs ++ zs)) form id (xs ++ zs))
      ≡ Some (sized offset (length (xs ++ zs)) (head_of features offset form id xs))

none_at : (b : Bool) (f g : FaultAt) → when b f ≡ None → when b g ≡ None
none_at b f g e = grind arith

fields_grow : (context : SectionContext) (features offset end : ℕ) (form : Form) (id : ℕ) (xs : List ℕ) → form_grows form ≡ true
    → wrong_content form offset xs ≡ None → wrong_data context form id end xs ≡ None
    → (zs : List ℕ) → Fields context features offset form id xs zs
unfolding wrong_content
fields_grow context features offset end custom id xs g right counts zs = by_name (name (Some name_limit) xs) refl
  where
    by_name : (n : Name) → name (Some name_limit) xs ≡ n → Fields context features offset custom id xs zs
    by_name (named text used) e =
        let m = same_name xs zs text used e in record { right = rw m refl; counts = refl; says = rw (m, e) refl }
    by_name (refused f i) e = let some = rw e at right in cc
fields_grow context features offset end items id xs g right counts zs = by_number (number VarU32 xs) refl
  where
    by_number : (n : Number) → number VarU32 xs ≡ n → Fields context features offset items id xs zs
    by_number (read v k) e =
        let m = same_number xs zs v k e in
        record { right = rw m refl; counts = rw m (none_at _ _ _ (rw e at counts)); says = rw (m, e) refl }
    by_number (bad f k) e = let some = rw e at right in cc
    by_number short e = let some = rw e at right in cc
fields_grow context features offset end unknown id xs g right counts zs = record { right = refl; counts = refl; says = refl }
fields_grow context features offset end index id xs g right counts zs = cc
fields_grow context features offset end data_count id xs g right counts zs = cc

-- ---- what a grammar cuts is skipped

-- the part that is cut
abbrev part_in : (features : ℕ) → Cut → Skip
part_in features c = part_of (so_far features c.offset c.shape, c.offset + c.size)

-- a tile of this shape is the part
abbrev SaysSkip : (features : ℕ) → Skip → Shape → Type 0
SaysSkip features s shape = (from : ℕ) → skip_in (tile_report features from s.to shape) ≡ Some s

-- The grammar skips this part at this offset, of which bytes are missing.
pub record SkipsAs (g : Grammar) (features at : ℕ) (xs : List ℕ) (c : Cut) : Type 0 where
  pub size : ℕ
  pub starts : (part_in features c).from ≡ c.offset
  pub ends : at + size ≡ c.offset + c.size
  pub missing : length xs < size
  pub skips : Skips g xs size c.offset (SaysSkip features (part_in features c))

module _ (features at : ℕ) (c : Cut) where
  as_check : (x : Option FaultAt) (next : Grammar) (xs : List ℕ) → (cut next xs ≡ Some c → SkipsAs next features at xs c)
      → cut (check x next) xs ≡ Some c → SkipsAs (check x next) features at xs c
  unfolding cut
  as_check None next xs f e =
      let s = f e in record {
        size = s.size;
        starts = s.starts;
        ends = s.ends;
        missing = s.missing;
        skips = skips_check None next xs s.size c.offset _ refl s.skips;
      }
  as_check (Some x) next xs f e = cc

  as_number : (o : ℕ) (next : ℕ → ℕ → Grammar) (xs : List ℕ)
      → ((v k : ℕ) → cut (next v k) (drop k xs) ≡ Some c → SkipsAs (next v k) features (at + k) (drop k xs) c)
      → cut (u32_field o next) xs ≡ Some c → SkipsAs (u32_field o next) features at xs c
  unfolding cut
  as_number o next xs f e = by_number (number VarU32 xs) refl
    where
      by_number : (n : Number) → number VarU32 xs ≡ n → SkipsAs (u32_field o next) features at xs c
      by_number (read v k) n =
          let s = f v k (rw n at e) in
          record {
            size = k + s.size;
            starts = s.starts;
            ends = omega (arith, s.ends);
            missing = omega (arith, length-drop k xs, s.missing);
            skips = skips_number o next xs v k s.size c.offset _ n s.skips;
          }
      by_number (bad x k) n = let none = rw n at e in cc
      by_number short n = let none = rw n at e in cc

  as_start : (o : ℕ) (end : Ending) (next : ℕ → Grammar) (xs : List ℕ)
      → ((id : ℕ) (ys : List ℕ) → cut (next id) ys ≡ Some c → SkipsAs (next id) features (at + 1) ys c)
      → cut (section_start o end next) xs ≡ Some c → SkipsAs (section_start o end next) features at xs c
  unfolding cut
  as_start o end next [] f e = cc
  as_start o end next (id ∷ xs) f e = by_magic (agree (id ∷ xs) magic) refl
    where
      by_magic : (b : Bool) → agree (id ∷ xs) magic ≡ b → SkipsAs (section_start o end next) features at (id ∷ xs) c
      by_magic true m = let none = rw m at e in cc
      by_magic false m =
          let s = f id xs (rw m at e) in
          record {
            size = suc s.size;
            starts = s.starts;
            ends = omega (arith, s.ends);
            missing = omega (arith, s.missing);
            skips = skips_id o id end next xs s.size c.offset _ m s.skips;
          }

-- ---- content whose end is missing

-- what is cut has no fault, and grows
record Grows (x y : Option FaultAt) (s : Shape) (offset size : ℕ) (c : Cut) : Type 0 where
  right : x ≡ None
  counts : y ≡ None
  grows : may_grow s ≡ true
  is : record { shape = s; offset = offset; size = size } ≡ c

grows_at : (x y : Option FaultAt) (s : Shape) (offset size : ℕ) (c : Cut)
    → cut_content offset size (verdict (check x (check y (accept s))) []) ≡ Some c → Grows x y s offset size c
unfolding verdict
grows_at None None s offset size c e = by_growth (may_grow s) refl
  where
    by_growth : (b : Bool) → may_grow s ≡ b → Grows None None s offset size c
    by_growth true g = record { right = refl; counts = refl; grows = g; is = let some = rw g at e in cc }
    by_growth false g = let none = rw g at e in cc
grows_at None (Some f) s offset size c e = cc
grows_at (Some f) y s offset size c e = cc

none_whole : (x y : Option FaultAt) (s : Shape) (xs : List ℕ) (c : Cut) → cut (check x (check y (accept s))) xs ≡ Some c → ⊥
unfolding cut
none_whole None None s xs c e = cc
none_whole None (Some f) s xs c e = cc
none_whole (Some f) y s xs c e = cc

-- whatever bytes follow
grown : (context : SectionContext) (features : ℕ) (form : Form) (id offset size : ℕ) (xs : List ℕ) → length xs < size
    → ((zs : List ℕ) → Fields context features offset form id xs zs)
    → Skips (whole_grammar context form id offset size) xs size offset
    (SaysSkip features (sized offset size (head_of features offset form id xs)))
unfolding verdict
grown context features form id offset size xs l f =
    skips_content size offset
    (λ content. check (wrong_content form offset content)
    (check (wrong_data context form id (offset + size) content) (accept (section form id content)))) xs
    (SaysSkip features (sized offset size (head_of features offset form id xs))) l
    (λ zs n.
    let x = f zs in
    let counts : wrong_data context form id (offset + size) (xs ++ zs) ≡ None = rw n at x.counts in
    let w : offset + size - length (xs ++ zs) ≡ offset = omega (arith, n) in (
      section form id (xs ++ zs),
      λ rest. rw (x.right, counts) refl,
      λ from. rw w (subst (λ (k : ℕ). skip_in (section_report features offset (offset + k) form id (xs ++ zs))
          ≡ Some (sized offset k (head_of features offset form id xs))) n x.says),
    ))

-- the content begins where the part says
part_is : (features offset size : ℕ) (form : Form) (id : ℕ) (xs : List ℕ) → form_grows form ≡ true
    → part_in features (record { shape = section form id xs; offset = offset; size = size })
    ≡ sized offset size (head_of features offset form id xs)
part_is features offset size custom id xs g = grind arith
part_is features offset size items id xs g = refl
part_is features offset size unknown id xs g = refl
part_is features offset size index id xs g = cc
part_is features offset size data_count id xs g = cc

whole_skips : (context : SectionContext) (features : ℕ) (form : Form) (id offset size : ℕ) (xs : List ℕ) (c : Cut)
    → cut (whole_grammar context form id offset size) xs ≡ Some c
    → SkipsAs (whole_grammar context form id offset size) features offset xs c
unfolding cut
whole_skips context features form id offset size xs c e = by_length (nat_le size (length xs)) refl
  where
    by_length : (b : Bool) → nat_le size (length xs) ≡ b → SkipsAs (whole_grammar context form id offset size) features offset xs c
    by_length true l = absurd (none_whole _ _ _ _ c (rw l at e))
    by_length false l =
        let k = grows_at _ _ (section form id xs) offset size c (rw l at e) in
        let m : length xs < size = leb-false _ _ l in
        let part = part_is features offset size form id xs k.grows in
        rw (← k.is) (record {
          size = size;
          starts = ap (λ (s : Skip). s.from) part;
          ends = refl;
          missing = m;
          skips = subst (λ (s : Skip). Skips (whole_grammar context form id offset size) xs size offset (SaysSkip features s))
              (sym part) (grown context features form id offset size xs m
              (fields_grow context features offset (offset + size) form id xs k.grows k.right k.counts));
        })

-- ---- a section

as_content : (context : SectionContext) (features : ℕ) (kind : Kind) (id offset size : ℕ) (xs : List ℕ) (c : Cut)
    → cut (content_grammar context kind id offset size) xs ≡ Some c
    → SkipsAs (content_grammar context kind id offset size) features offset xs c
as_content context features (whole form) id offset size xs c e = whole_skips context features form id offset size xs c e
as_content context features code id offset size xs c e = let none = sym (code_cut context offset size xs _ refl) ∙ e in cc

section_skips : (context : SectionContext) (features offset : ℕ) (xs : List ℕ) (c : Cut)
    → cut (section_grammar context offset) xs ≡ Some c → SkipsAs (section_grammar context offset) features offset xs c
unfolding section_grammar
section_skips context features offset xs c e = as_start features offset c offset _ _ xs
    (λ id ys. as_check features (offset + 1) c _ _ ys
    (as_number features (offset + 1) c (offset + 1) _ ys
    (λ v k. as_check features (offset + 1 + k) c _ _ (drop k ys)
    (as_check features (offset + 1 + k) c _ _ (drop k ys)
    (as_content context features (kind_of context.encoding id) id (offset + 1 + k) v (drop k ys) c))))) e

-- ---- a body

body_is : (offset size features : ℕ) (content : List ℕ) → length content ≡ size
    → skip_in (body_report (window_over features (offset + size - length content) content)) ≡ Some (sized offset size body)
body_is offset size features content n = grind arith

bytes_skip : (features offset size : ℕ) (xs : List ℕ) (c : Cut)
    → cut (bytes size offset (λ content. accept (code_entry content))) xs ≡ Some c
    → SkipsAs (bytes size offset (λ content. accept (code_entry content))) features offset xs c
unfolding cut verdict
bytes_skip features offset size xs c e = by_length (nat_le size (length xs)) refl
  where
    by_length : (b : Bool) → nat_le size (length xs) ≡ b
        → SkipsAs (bytes size offset (λ content. accept (code_entry content))) features offset xs c
    by_length true l = let none = rw l at e in cc
    by_length false l =
        let some = rw l at e in
        let is : record { shape = code_entry xs; offset = offset; size = size } ≡ c = cc in
        let m : length xs < size = leb-false _ _ l in
        rw (← is) (record {
          size = size;
          starts = refl;
          ends = refl;
          missing = m;
          skips = skips_content size offset (λ content. accept (code_entry content)) xs _ m
              (λ zs n. (code_entry (xs ++ zs), λ rest. refl, λ from. body_is offset size features (xs ++ zs) n));
        })

body_skips : (bodies code_bytes features offset : ℕ) (xs : List ℕ) (c : Cut) → cut (body_grammar bodies code_bytes offset) xs ≡ Some c
    → SkipsAs (body_grammar bodies code_bytes offset) features offset xs c
unfolding body_grammar cut
body_skips zero code_bytes features offset xs c e = cc
body_skips (suc bodies) code_bytes features offset xs c e = as_number features offset c offset _ xs
    (λ v k. as_check features (offset + k) c _ _ (drop k xs) (bytes_skip features (offset + k) v (drop k xs) c)) e

-- ---- the parser

-- what is said to later parts is in the first fields
same_state : (p : ParserState) (to : ℕ) (report : Report) (s : Skip) → skip_in report ≡ Some s
    → state_after p to (report_with s.head) ≡ state_after p to report
same_state p to report s e = grind arith

inside_skips : (context : SectionContext) (features bodies code_bytes offset : ℕ) (xs : List ℕ) (c : Cut) (b : Bool)
    → nat_eq (bodies + code_bytes) 0 ≡ b
    → cut (cond b (section_grammar context offset) (body_grammar bodies code_bytes offset)) xs ≡ Some c
    → SkipsAs (cond b (section_grammar context offset) (body_grammar bodies code_bytes offset)) features offset xs c
inside_skips context features bodies code_bytes offset xs c true z e = section_skips context features offset xs c e
inside_skips context features bodies code_bytes offset xs c false z e = body_skips bodies code_bytes features offset xs c e

-- the grammar of what comes where a parser is that expects no header
abbrev grammar_in : ParserState → Grammar
grammar_in p = inside (known_context p) p.bodies p.code_bytes p.offset

skips_part : (p new : ParserState) (xs : List ℕ) (c : Cut) → p.expects_header ≡ false → cut (grammar_in p) xs ≡ Some c
    → c.offset + c.size < 2 ^ 64 → new ≡ state_after p (part_in p.features c).to (report_with (part_in p.features c).head)
    → SkipsPart p xs (part_in p.features c) new
skips_part p new xs c h e fits n =
    let k : SkipsAs (grammar_of p) p.features p.offset xs c =
    rw h (inside_skips (known_context p) p.features p.bodies p.code_bytes p.offset xs c _ refl e) in
    let s = part_in p.features c in
    record {
      whole = λ more l.
          let (t, v, size_is, says) = k.skips.whole more (omega (arith, l, k.ends)) in
          let ends : p.offset + length t.bytes ≡ s.to = omega (arith, size_is, k.ends) in
          record {
            next = t;
            is_next = v;
            ends = ends;
            says = says p.offset;
            state = n ∙ (same_state p s.to (tile_report p.features p.offset s.to t.shape) s (says p.offset)
                ∙ ap (λ (x : ℕ). state_after p x (tile_report p.features p.offset x t.shape)) (sym ends));
          };
      short = λ more l. rw k.starts (k.skips.short more (omega (arith, l, k.ends)));
      missing = omega (arith, k.missing, k.ends);
      fits = fits;
    }

place_is : (features offset : ℕ) (xs : List ℕ) → place (window_over features offset xs)
    ≡ record { features = features; offset = offset; rest = xs }
place_is features offset xs = grind arith

same_part : (x y : Report × ℕ) → Some x ≡ Some y → x ≡ y
same_part x y e = cc

-- what was read of the bytes at the parser
module _ (p : ParserState) (xs : List ℕ) (w : Window) (report : Report) (end : ℕ) (same : w ≡ window_over p.features p.offset xs)
    (h : p.expects_header ≡ false) (is : Cuts p (place w) (Some (report, end))) where
  cut_is : Some (report, end) ≡ cut_part p.features (cut (grammar_in p) xs)
  cut_is = subst (λ (x : Place). Cuts p x (Some (report, end))) (ap place same ∙ place_is p.features p.offset xs) is

  pub is_skipped : p.offset + length xs < 2 ^ 64 → skip_of p xs ≡ Some (part_of (report, end))
  is_skipped l = rw (h, lt-leb (2 ^ 64) (p.offset + length xs) l) (ap (option_map part_of) (sym cut_is))

  pub part_skips : (new : ParserState) → CanPass p report end → end < 2 ^ 64 → new ≡ state_after p end report
      → SkipsPart p xs (part_of (report, end)) new
  part_skips new pass fits n = by_cut (cut (grammar_in p) xs) refl
    where
      by_cut : (c : Option Cut) → cut (grammar_in p) xs ≡ c → SkipsPart p xs (part_of (report, end)) new
      by_cut None e =
          let none : Some (report, end) ≡ cut_part p.features None = cut_is ∙ ap (cut_part p.features) e in cc
      by_cut (Some c) e =
          let part = same_part (report, end) (so_far p.features c.offset c.shape, c.offset + c.size)
          (cut_is ∙ ap (cut_part p.features) e) in
          let says : report ≡ so_far p.features c.offset c.shape = ap (λ (x : Report × ℕ). x.0) part in
          let ends : end ≡ c.offset + c.size = ap (λ (x : Report × ℕ). x.1) part in
          rw (says, ends) (skips_part p new xs c h e (rw ends at fits) (n ∙ (sym pass.first_fields ∙ (λ i.
          state_after p (ends i) (report_with (head_in (says i)))))))
