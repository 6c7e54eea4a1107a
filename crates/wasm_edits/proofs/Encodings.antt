-- What encodings are read as.
use Rattle.std.proofs.Common.{◌≡◌, ℕ, zero, suc, ◌+◌, ◌-◌, ◌*◌, ◌<◌, ◌≤◌, ◌/◌, ◌^◌, true, List, [], ◌∷◌, ◌++◌, length, take}
use Rattle.std.proofs.Common.{ap, refl, sym, ◌∙◌, arith, Option, Some, None, slice_index, subst}
use Rattle.std.proofs.Math.Nat.{pow-succ'}
use Rattle.std.proofs.lemmas.Bool.{lt-ltb}
use Rattle.std.proofs.Math.Seq.{take-append_seam}
use Rattle.wasm_base.specs.Number.{last_place, septets, number, read, ends_at}
use Rattle.std.proofs.Common.{append_assoc, append-nil, drop, length-append}
use Rattle.std.proofs.lemmas.Bool.{le-ltb}
use Rattle.std.proofs.Math.Seq.{drop-append_seam}
use Rattle.std.specs.Str.{is_utf8}
use Rattle.wasm_base.specs.Name.{after_size, name, name_limit, named}
use Rattle.wasm_base.specs.declared.fault.NumberKind.TheVariants.{VarU32}
use Rattle.wasm_edits.specs.EncodedLaws.{SectionsReadBack}
use Rattle.wasm_edits.specs.Encoded.{leb, encoded, encoded_name, content_of, frame_of, Fits}
use Rattle.wasm_edits.specs.declared.encoding.NewSection.{NewSection}
use Rattle.wasm_grammar.specs.Accepted.{IsFrame, IsFormed, IsGood}
use Rattle.wasm_grammar.specs.Content.{custom, kind_of}
use Rattle.wasm_grammar.specs.Ids.{custom_id}
use Rattle.wasm_grammar.specs.declared.encoding.Encoding.{Encoding}
use Rattle.wasm_grammar.specs.declared.encoding.Encoding.TheVariants.{Module, Component}

-- ---- the encoding of a number

pow_more : (b m : ℕ) → b ^ suc m ≡ b * b ^ m
pow_more b m = pow-succ' b m

-- a number without its first septet
rest_below : (p n : ℕ) → n < 128 * p → n / 128 < p
rest_below p n h = omega arith

rest_below_top : (p n : ℕ) → n < 16 * (128 * p) → n / 128 < 16 * p
rest_below_top p n h = omega arith

take_append_all : (xs later : List ℕ) (k : ℕ) → k ≡ length xs → take k (xs ++ later) ≡ xs
take_append_all xs later k e = rw e (take-append_seam xs later)

pub leb_least : (m n : ℕ) → 1 ≤ length (leb m n)
leb_least zero n = omega arith
leb_least (suc m) n = grind arith

pub leb_most : (m n : ℕ) → length (leb m n) ≤ suc m
leb_most zero n = omega arith
leb_most (suc m) n = grind (arith, leb_most m (n / 128))

leb_last : (m n : ℕ) (later : List ℕ) → n < 128 ^ suc m → last_place (leb m n ++ later) ≡ Some (length (leb m n) - 1)
leb_last zero n later h = grind arith
leb_last (suc m) n later h = grind (arith, leb_last m (n / 128) later, pow_more, rest_below, leb_least)

leb_sum : (m n : ℕ) → n < 128 ^ suc m → septets (leb m n) ≡ n
leb_sum zero n h = grind arith
leb_sum (suc m) n h = grind (arith, leb_sum m (n / 128), pow_more, rest_below)

-- the last byte, if there are as many as may be
leb_top : (m n : ℕ) (later : List ℕ) → n < 16 * 128 ^ m → length (leb m n) ≡ suc m → slice_index (leb m n ++ later) m < 16
leb_top zero n later h e = grind arith
leb_top (suc m) n later h e = grind (arith, leb_top m (n / 128) later, pow_more, leb_least, rest_below_top)

-- ---- reading it

top_at : (xs later : List ℕ) (i : ℕ) → length xs ≡ suc i → (length xs ≡ 5 → slice_index (xs ++ later) 4 < 16) → suc i ≡ 5
    → slice_index (xs ++ later) i < 16
top_at xs later i e top f =
    let g : 4 ≡ i = omega arith in subst (λ (k : ℕ). slice_index (xs ++ later) k < 16) g (top (e ∙ f))

ends_so : (bytes xs : List ℕ) (i n : ℕ) → length xs ≡ suc i → suc i ≤ 5 → take (suc i) bytes ≡ xs → septets xs ≡ n
    → (suc i ≡ 5 → slice_index bytes i < 16) → ends_at VarU32 bytes (Some i) ≡ read n (length xs)
ends_so bytes xs i n e most taken sum top = grind (arith, lt-ltb)

number_of : (xs later : List ℕ) (n : ℕ) → 1 ≤ length xs → length xs ≤ 5 → last_place (xs ++ later) ≡ Some (length xs - 1) → septets xs ≡ n
    → (length xs ≡ 5 → slice_index (xs ++ later) 4 < 16) → number VarU32 (xs ++ later) ≡ read n (length xs)
unfolding number
number_of xs later n least most last sum top =
    let i : ℕ = length xs - 1 in
    let e : length xs ≡ suc i = omega arith in
    let taken : take (suc i) (xs ++ later) ≡ xs = take_append_all xs later (suc i) (sym e) in
    ap (ends_at VarU32 (xs ++ later)) last ∙ ends_so (xs ++ later) xs i n e (omega arith) taken sum (top_at xs later i e top)

pub reads_back : (n : ℕ) (later : List ℕ) → n < 2 ^ 32 → number VarU32 (encoded n ++ later) ≡ read n (length (encoded n))
reads_back n later h = number_of (leb 4 n) later n (leb_least 4 n) (leb_most 4 n) (leb_last 4 n later (omega arith))
    (leb_sum 4 n (omega arith)) (leb_top 4 n later (omega arith))

-- ---- no shorter bytes

leb_short : (m i n : ℕ) → n < 128 ^ suc i → length (leb m n) ≤ suc i
leb_short zero i n h = omega arith
leb_short (suc m) zero n h = grind arith
leb_short (suc m) (suc i) n h = grind (arith, leb_short m i (n / 128), pow_more, rest_below)

pow_some : (k : ℕ) → 1 ≤ 128 ^ k
pow_some zero = omega arith
pow_some (suc k) = grind (arith, pow_some k, pow_more)

septets_of : (k : ℕ) (xs : List ℕ) → septets (take k xs) < 128 ^ k
septets_of zero xs = omega arith
septets_of (suc k) [] = grind (arith, pow_some)
septets_of (suc k) (x ∷ xs) = grind (arith, septets_of k xs, pow_more)

read_apart : (a b c d : ℕ) → read a b ≡ read c d → (a ≡ c) × (b ≡ d)
read_apart a b c d e = (cc, cc)

shortest_at : (n used : ℕ) (bytes : List ℕ) (o : Option ℕ) → ends_at VarU32 bytes o ≡ read n used → length (encoded n) ≤ used
shortest_at n used bytes None e = grind arith
shortest_at n used bytes (Some i) e =
    let f : (septets (take (suc i) bytes) ≡ n) × (suc i ≡ used) = grind (arith, read_apart) in
    let g : septets (take (suc i) bytes) < 128 ^ suc i = septets_of (suc i) bytes in
    let h : n < 128 ^ suc i = omega (arith, f.0) in
    let k : length (leb 4 n) ≤ suc i = leb_short 4 i n h in
    omega (arith, k, f.1)

pub shortest : (n used : ℕ) (bytes : List ℕ) → number VarU32 bytes ≡ read n used → length (encoded n) ≤ used
unfolding number
shortest n used bytes e = shortest_at n used bytes (last_place bytes) e

-- ---- names and sections

within : (bytes text : List ℕ) (used : ℕ) → length text ≤ length (drop used bytes) → take (length text) (drop used bytes) ≡ text
    → is_utf8 text ≡ true → length text ≤ name_limit
    → after_size (Some name_limit) bytes (read (length text) used) ≡ named text (used + length text)
within bytes text used enough taken utf8 short = grind (arith, le-ltb)

-- a text after its size
pub text_back : (text later size : List ℕ) → number VarU32 (size ++ (text ++ later)) ≡ read (length text) (length size)
    → is_utf8 text ≡ true → length text ≤ name_limit
    → name (Some name_limit) (size ++ (text ++ later)) ≡ named text (length size + length text)
unfolding name
text_back text later size e utf8 short =
    let bytes : List ℕ = size ++ (text ++ later) in
    let after : drop (length size) bytes ≡ text ++ later = drop-append_seam size (text ++ later) in
    let taken : take (length text) (drop (length size) bytes) ≡ text = rw after (take-append_seam text later) in
    let enough : length text ≤ length (drop (length size) bytes) = rw after (omega (arith, length-append text later)) in
    ap (after_size (Some name_limit) bytes) e ∙ within bytes text (length size) enough taken utf8 short

pub names_back : (text later : List ℕ) → is_utf8 text ≡ true → length text ≤ name_limit
    → name (Some name_limit) (encoded_name text ++ later) ≡ named text (length (encoded_name text))
names_back text later utf8 short =
    let size : List ℕ = encoded (length text) in
    let e : (size ++ text) ++ later ≡ size ++ (text ++ later) = append_assoc size text later in
    let n : number VarU32 (size ++ (text ++ later)) ≡ read (length text) (length size) =
    reads_back (length text) (text ++ later) (omega arith) in
    ap (name (Some name_limit)) e ∙ (text_back text later size n utf8 short ∙ ap (named text) (sym (length-append size text)))

good : (encoding : Encoding) (s : NewSection) → IsFormed custom (content_of s) → IsGood (kind_of encoding custom_id) (content_of s)
good Module s f = f
good Component s f = f

alone : (n : ℕ) → n < 2 ^ 32 → number VarU32 (encoded n) ≡ read n (length (encoded n))
alone n h = let size : List ℕ = encoded n in
    subst (λ (xs : List ℕ). number VarU32 xs ≡ read n (length size)) (append-nil size) (reads_back n [] h)

pub section_formed : (encoding : Encoding) (s : NewSection) → Fits s → IsFrame encoding (frame_of s)
section_formed encoding s fits = record {
  id = omega arith;
  sized = alone (length (content_of s)) fits.sized;
  content = good encoding s (s.name.now, length (encoded_name s.name.now), names_back s.name.now s.«data».now fits.text fits.short);
}

pub sections_back : SectionsReadBack
sections_back encoding s fits = (
  section_formed encoding s fits,
  record {
    of_id = refl;
    prefix = encoded_name s.name.now;
    parts = refl;
    reads = names_back s.name.now s.«data».now fits.text fits.short;
  },
)

-- a greater number takes no fewer bytes
pub leb_longer : (m a b : ℕ) → a ≤ b → length (leb m a) ≤ length (leb m b)
leb_longer zero a b l = omega arith
leb_longer (suc m) a b l = grind (arith, leb_longer m (a / 128) (b / 128), leb_least m (b / 128))
