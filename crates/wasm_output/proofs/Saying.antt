-- What was put on the line that is begun, after each call that puts more.
use Rattle.wasm_output.proofs.Common.{◌≡◌, ℕ, zero, suc, ◌<◌, Bool, true, false, get_or, nat_eq, refl, arith, ◌+◌, ◌%◌, List, [], ◌∷◌, ◌++◌}
use Rattle.wasm_output.proofs.Common.{codes, sym, ap, ◌∙◌, ◌^◌, subst, decimal, length, ◌||◌, Option, Some, None, append_assoc, append-nil}
use Rattle.wasm_output.proofs.Common.{take, Appends-nil, Appends-trans, nat_tests, decimal_by_steps, flat_map-append, list_any-append}
use Rattle.wasm_output.proofs.Common.{list_any, flat_map, if◌then◌else◌, slice_index, offset_text, IsCut, ListError, Base, is_escaped}
use Rattle.wasm_output.proofs.Common.{quoted_byte, PutsText, Says, SaysSome, Writing, PutsAs, Puts, has_line_feed, Style, Objects}
use Rattle.std.proofs.Math.Seq.{take-length}
use Rattle.std.proofs.lemmas.List.{take_more}
use Rattle.wasm_output.specs.Fields.{field_start, Field, field_text, named, word, with_fields}
use Rattle.wasm_output.specs.Said.{HasLine, SaysInBase, SaysWith}
use Rattle.wasm_output.specs.Tree.{are_lines, base_of}
use Rattle.wasm_io.proofs.ForCallers.{no_line_feed}

-- ---- bytes after bytes

-- what is put after a text that was put
after_text : (waiting text moved waiting' bytes : List ℕ) → waiting ++ text ≡ moved ++ waiting'
    → waiting ++ (text ++ bytes) ≡ moved ++ (waiting' ++ bytes)
after_text waiting text moved waiting' bytes e = grind (arith, append_assoc)

pub cut_wider : (taken written : Option (List ℕ)) (waiting bytes : List ℕ) (why : ListError) → IsCut taken written waiting why
    → IsCut taken written (waiting ++ bytes) why
cut_wider taken written waiting bytes why w = grind (arith, append_assoc)

-- ---- a writer

-- bytes that are put are a text
pub as_text : (old new : Writing) (bytes : List ℕ) (a b : Option ListError) → PutsAs a b bytes old new → PutsText a b bytes old new
as_text old new bytes a b p = grind (arith, cut_wider)

-- what is put after what was put
module _ (since now new : Writing) (text bytes : List ℕ) where
  -- by why each has stopped
  pub joined : (a b c : Option ListError) → since.why ≡ a → now.why ≡ b → new.why ≡ c → PutsText a b text since now
      → PutsText b c bytes now new → PutsText a c (text ++ bytes) since new
  joined (Some why) b c ea eb ec p q = grind arith
  joined None (Some why) c ea eb ec p q = grind (arith, append_assoc, cut_wider)
  joined None None None ea eb ec p q = record {
    puts = record {
      moved = p.puts.moved ++ q.puts.moved;
      writes = Appends-trans since.taken now.taken new.taken p.puts.moved q.puts.moved p.puts.writes q.puts.writes;
      waits = after_text since.waiting text p.puts.moved now.waiting bytes p.puts.waits
          ∙ (ap (λ (x : List ℕ). p.puts.moved ++ x) q.puts.waits ∙ sym (append_assoc p.puts.moved q.puts.moved new.waiting));
    };
    begun = q.begun ∙ p.begun;
    failed = q.failed ∙ p.failed;
    why = q.why ∙ p.why;
    style = q.style ∙ p.style;
    spot = q.spot ∙ p.spot;
    unshown = q.unshown ∙ p.unshown;
  }
  joined None None (Some why) ea eb ec p q = grind (arith, after_text, append_assoc, Appends-trans)

  joins : HasLine since text now → HasLine now bytes new → HasLine since (text ++ bytes) new
  joins h k = record { begun = h.begun; lines = h.lines; puts = joined since.why now.why new.why refl refl refl h.puts k.puts }

begun_by : (since now : Writing) (text : List ℕ) (a b : Option ListError) → since.is_begun ≡ true → PutsText a b text since now
    → now.is_begun ≡ true
begun_by since now text a b e p = grind arith

-- the line is still begun
pub still_begun : (since now : Writing) (text : List ℕ) → HasLine since text now → now.is_begun ≡ true
still_begun since now text h = begun_by since now text since.why now.why h.begun h.puts

pub nothing_by : (w : Writing) (why : Option ListError) → w.why ≡ why → PutsText why why [] w w
nothing_by w why e = grind (arith, Appends-nil, append-nil)

-- nothing was put on a line that is begun
pub has_nothing : (w : Writing) → w.is_begun ≡ true → are_lines w.style ≡ true → HasLine w [] w
has_nothing w e lines = record { begun = e; lines = lines; puts = nothing_by w w.why refl }

style_by : (since now : Writing) (text : List ℕ) (a b : Option ListError) → PutsText a b text since now → now.style ≡ since.style
style_by since now text a b p = grind arith

-- the style is still the same
pub still_same : (since now : Writing) (text : List ℕ) → HasLine since text now → now.style ≡ since.style
still_same since now text h = style_by since now text since.why now.why h.puts

pub still_lines : (since now : Writing) (text : List ℕ) → HasLine since text now → are_lines now.style ≡ true
still_lines since now text h = ap are_lines (still_same since now text h) ∙ h.lines

no_lines : (style : Style) → are_lines style ≡ true → style ≡ Objects → ⊥
no_lines style e f = grind arith

-- in objects there are no lines
pub says_never : (text : Base → List ℕ) (old new : Writing) → old.style ≡ Objects → SaysInBase text old new
says_never text old new objects since before h = absurd (no_lines old.style (still_lines since old before h) objects)

pub says_none_ever : (old new : Writing) → old.style ≡ Objects → SaysSome old new
says_none_ever old new objects since m = absurd (no_lines old.style (still_lines since old m.text m.has) objects)

-- ---- texts

-- a text with the offsets of these lines
pub says_in_base : (text : Base → List ℕ) (base : Base) (old new : Writing) → base_of old.style ≡ base → Says (text base) old new
    → SaysInBase text old new
says_in_base text base old new e p since before h = subst (λ (b : Base). HasLine since (before ++ text b) new)
    (sym e ∙ ap base_of (still_same since old before h)) (p since before h)

-- a part of a line that is begun already
pub says_piece : (old mid new : Writing) (bytes : List ℕ) → (old.is_begun ≡ true → mid ≡ old) → Puts bytes mid new → Says bytes old new
says_piece old mid new bytes same p since before h = grind (arith, still_begun, joined, as_text)

pub says_nothing : (w : Writing) → Says [] w w
says_nothing w since before h = subst (λ (t : List ℕ). HasLine since t w) (sym (append-nil before)) h

-- one text after the other
pub says_both : (a b : Base → List ℕ) (x y z : Writing) → SaysInBase a x y → SaysInBase b y z → SaysInBase (λ base. a base ++ b base) x z
says_both a b x y z p q since before h = grind (arith, append_assoc)

pub says_then : (a b : List ℕ) (x y z : Writing) → Says a x y → Says b y z → Says (a ++ b) x z
says_then a b x y z p q = says_both (λ base. a) (λ base. b) x y z p q

pub says_same : (a b : List ℕ) (x y : Writing) → a ≡ b → Says a x y → Says b x y
says_same a b x y e p = subst (λ (t : List ℕ). Says t x y) e p

-- the value of a field
pub says_value : (name : List ℕ) (value : Base → List ℕ) (x y z : Writing) → Says (codes " " ++ (name ++ codes "=")) x y
    → SaysInBase value y z → SaysInBase (λ base. codes " " ++ (name ++ (codes "=" ++ value base))) x z
says_value name value x y z p q since before h = grind (arith, append_assoc)

-- ---- some text

-- a text is some
pub says_some : (text : List ℕ) (x y : Writing) → Says text x y → SaysSome x y
says_some text x y p since m = record { text = m.text ++ text; has = p since m.text m.has }

-- a field whose value is some text
pub says_named : (name : List ℕ) (x y z : Writing) → Says (codes " " ++ (name ++ codes "=")) x y → SaysSome y z
    → SaysWith (λ value. named name (word value) ∷ []) x z
says_named name x y z p q since before h =
    let start = codes " " ++ (name ++ codes "=") in
    let m = p since before h in
    let r = q y (record {
      text = [];
      has = grind (arith, has_nothing, still_begun, still_lines);
    }) in (
      r.text,
      subst (λ (t : List ℕ). HasLine since t z) (append_assoc before start r.text
          ∙ ap (λ (t : List ℕ). before ++ (codes " " ++ t)) (append_assoc name (codes "=") r.text))
          (joins since y z (before ++ start) r.text m r.has),
    )

-- fields after fields
pub more_fields : (base : Base) (before : List ℕ) (xs ys : List Field)
    → with_fields base (with_fields base before xs) ys ≡ with_fields base before (xs ++ ys)
more_fields base before [] ys = refl
more_fields base before (x ∷ xs) ys = more_fields base (before ++ field_text x base) xs ys

-- ---- parts of a text

neither : (a b : Bool) → (a || b) ≡ false → (a ≡ false) × (b ≡ false)
neither a b e = grind arith

parts_without : (xs ys : List ℕ) → has_line_feed (xs ++ ys) ≡ false → (has_line_feed xs ≡ false) × (has_line_feed ys ≡ false)
parts_without xs ys e = neither (has_line_feed xs) (has_line_feed ys) (sym (list_any-append (λ b. nat_eq b 10) xs ys) ∙ e)

pub none_in_first : (rest first later : List ℕ) → rest ≡ first ++ later → has_line_feed rest ≡ false
    → (has_line_feed first ≡ false) × (has_line_feed later ≡ false)
none_in_first rest first later e none = parts_without first later (ap has_line_feed (sym e) ∙ none)

pub says_parts : (rest first later : List ℕ) (x y z : Writing) → rest ≡ first ++ later → Says first x y → Says later y z → Says rest x z
says_parts rest first later x y z e p q = says_same (first ++ later) rest x z (sym e) (says_then first later x y z p q)

-- ---- digits are no line feeds

digit_is_none : (n : ℕ) → nat_eq (48 + n) 10 ≡ false
digit_is_none n = grind (arith, nat_tests)

digit_alone : (n : ℕ) → has_line_feed ((48 + n) ∷ []) ≡ false
digit_alone n = rw (digit_is_none n) refl

pub none_in_decimal : (n : ℕ) → n < 2 ^ 64 → has_line_feed (decimal n) ≡ false
none_in_decimal = decimal_by_steps (λ n ds. has_line_feed ds ≡ false) (λ n h. digit_alone n)
    (λ n ds h k. list_any-append (λ b. nat_eq b 10) ds ((48 + n % 10) ∷ []) ∙ rw k (digit_alone (n % 10)))

pub none_in_number_field : (name : List ℕ) (n : ℕ) → n < 2 ^ 64 → has_line_feed name ≡ false
    → has_line_feed (field_start name ++ decimal n) ≡ false
none_in_number_field name n h none = list_any-append (λ b. nat_eq b 10) (field_start name) (decimal n)
    ∙ rw (list_any-append (λ b. nat_eq b 10) name (codes "="), none, none_in_decimal n h) refl

pub none_in_signed : (negative : Bool) (n : ℕ) → n < 2 ^ 64 → has_line_feed ((if negative then codes "-" else []) ++ decimal n) ≡ false
none_in_signed negative n h = grind (arith, none_in_decimal)

-- nor are those of an offset
pub none_in_offset : (base : Base) (n : ℕ) → n < 2 ^ 64 → has_line_feed (offset_text base n) ≡ false
none_in_offset base n h = grind (arith, none_in_decimal, no_line_feed)

-- nor is one escaped in quotes
plain_digit : (n : ℕ) → n < 10 → list_any is_escaped ((48 + n) ∷ []) ≡ false
plain_digit n h = grind (arith, nat_tests)

pub plain_decimal : (n : ℕ) → n < 2 ^ 64 → list_any is_escaped (decimal n) ≡ false
plain_decimal = decimal_by_steps (λ n ds. list_any is_escaped ds ≡ false) (λ n h. plain_digit n h)
    (λ n ds h k. list_any-append is_escaped ds ((48 + n % 10) ∷ []) ∙ rw k (plain_digit (n % 10) (omega arith)))

-- those that hexadecimal digits are taken from are none
none_at : (xs : List ℕ) (i : ℕ) → has_line_feed xs ≡ false → nat_eq (slice_index xs i) 10 ≡ false
none_at [] i none = refl
none_at (x ∷ xs) zero none = (neither (nat_eq x 10) (has_line_feed xs) none).0
none_at (x ∷ xs) (suc i) none = none_at xs i (neither (nat_eq x 10) (has_line_feed xs) none).1

pub none_in_digits : (i j : ℕ)
    → has_line_feed (slice_index (codes "0123456789abcdef") i ∷ slice_index (codes "0123456789abcdef") j ∷ []) ≡ false
none_in_digits i j = rw (none_at (codes "0123456789abcdef") i refl, none_at (codes "0123456789abcdef") j refl) refl

-- nor is a plain byte in quotes
pub none_in_quoted : (byte : ℕ) → is_escaped byte ≡ false → has_line_feed (byte ∷ []) ≡ false
none_in_quoted byte e = grind arith

-- ---- plain bytes in quotes

pub plain_quoted : (xs : List ℕ) → list_any is_escaped xs ≡ false → flat_map quoted_byte xs ≡ xs
plain_quoted [] e = refl
plain_quoted (x ∷ xs) e =
    let (first, later) = neither (is_escaped x) (list_any is_escaped xs) e in rw (first, plain_quoted xs later) refl

pub none_in_plain : (xs : List ℕ) → list_any is_escaped xs ≡ false → has_line_feed xs ≡ false
none_in_plain [] e = refl
none_in_plain (x ∷ xs) e =
    let (first, later) = neither (is_escaped x) (list_any is_escaped xs) e in
    rw ((neither (nat_eq x 10) false (none_in_quoted x first)).0, none_in_plain xs later) refl

pub maps_parts : (f : ℕ → List ℕ) (rest first later text : List ℕ) (x y z : Writing) → rest ≡ first ++ later
    → flat_map f first ≡ text → Says text x y → Says (flat_map f later) y z → Says (flat_map f rest) x z
maps_parts f rest first later text x y z e t p q = says_parts (flat_map f rest) text (flat_map f later) x y z
    (ap (flat_map f) e ∙ (flat_map-append f first later ∙ ap (λ (u : List ℕ). u ++ flat_map f later) t)) p q

-- ---- one more of a list

module _ {X : Type 0} (f : X → List ℕ) (xs : List X) where
  pub says_one_more : (i : ℕ) (d : X) (old mid new : Writing) → i < length xs → Says (flat_map f (take i xs)) old mid
      → Says (f (get_or xs i d)) mid new → Says (flat_map f (take (i + 1) xs)) old new
  says_one_more i d old mid new h p q = says_same (flat_map f (take i xs) ++ f (get_or xs i d)) (flat_map f (take (i + 1) xs)) old new
      (sym (ap (flat_map f) (take_more xs i d h) ∙ (flat_map-append f (take i xs) (get_or xs i d ∷ [])
      ∙ ap (λ y. flat_map f (take i xs) ++ y) (append-nil (f (get_or xs i d))))))
      (says_then (flat_map f (take i xs)) (f (get_or xs i d)) old mid new p q)

  pub says_item_more : (i : ℕ) (x : X) (old mid new : Writing) → i < length xs → x ≡ get_or xs i x → Says (flat_map f (take i xs)) old mid
      → Says (f x) mid new → Says (flat_map f (take (i + 1) xs)) old new
  says_item_more i x old mid new h e p q = says_one_more i x old mid new h p (subst (λ (y : X). Says (f y) mid new) e q)

  pub says_all : (old new : Writing) → Says (flat_map f (take (length xs) xs)) old new → Says (flat_map f xs) old new
  says_all old new p = says_same (flat_map f (take (length xs) xs)) (flat_map f xs) old new (ap (flat_map f) (take-length xs)) p
