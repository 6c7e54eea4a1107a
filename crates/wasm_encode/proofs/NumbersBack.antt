-- The bytes of numbers are read as the numbers.
use Rattle.std.proofs.Common.{◌≡◌, ℕ, zero, suc, ◌+◌, ◌-◌, ◌*◌, ◌<◌, ◌≤◌, ◌/◌, ◌%◌, ◌^◌, Bool, true, false, List, []}
use Rattle.std.proofs.Common.{◌∷◌, ◌++◌, length, take, arith, ap, sym, ◌∙◌, Some, slice_index, Ok, refl, ℤ, pos}
use Rattle.std.proofs.Common.{negsuc, ◌-ℤ◌, nat_lt, cond, subst}
use Rattle.std.proofs.Math.Nat.{pow-succ'}
use Rattle.std.proofs.Math.Seq.{drop-append_seam, take-append_seam}
use Rattle.std.proofs.lemmas.Bool.{lt-ltb, le-ltb, le-leb}
use Rattle.std.proofs.lemmas.Int.{ints}
use Rattle.wasm_base.proofs.Signed.{seven_bits}
use Rattle.wasm_base.specs.Item.{ReadsAs}
use Rattle.wasm_base.specs.Leading.{flags_at}
use Rattle.wasm_base.specs.Number.{read, number, ends_at, last_place, septets, most_bytes, bits_of, is_unused_right}
use Rattle.wasm_base.specs.Number.{in_window, unsigned_at}
use Rattle.wasm_base.specs.Signed.{signed_value, signed_at, FitsBits}
use Rattle.wasm_base.specs.Widths.{is_signed}
use Rattle.wasm_base.specs.declared.fault.NumberKind.{NumberKind}
use Rattle.wasm_base.specs.declared.fault.NumberKind.TheVariants.{VarU32, VarI32, VarU64, VarI64, VarS33}
use Rattle.wasm_encode.specs.Numbers.{septet, leb, septets_of, unsigned_bytes, signed_bytes}
use Rattle.wasm_encode.specs.ReadsBack.{spot, Encodes}
use Rattle.wasm_encode.proofs.Numbers.{span, leb_enough, leb_least, leb_most, rest_below, septets_last}

pow_more : (b m : ℕ) → b ^ suc m ≡ b * b ^ m
pow_more b m = pow-succ' b m

-- ---- the septets

septet_low : (flips : Bool) (n : ℕ) → n < 128 → septet flips n < 128
septet_low false n h = omega arith
septet_low true n h = omega arith

leb_ends : (flips : Bool) (limit m n : ℕ) (later : List ℕ) → limit ≤ 128 → n < span 64 m
    → last_place (leb flips limit m n ++ later) ≡ Some (length (leb flips limit m n) - 1)
leb_ends flips limit zero n later l h = grind (arith, septet_low, lt-ltb)
leb_ends flips limit (suc m) n later l h =
    grind (arith, septet_low, lt-ltb, le-ltb, leb_ends flips limit m (n / 128) later l, rest_below, leb_least)

-- the sum of a number's septets
leb_sum : (limit m n : ℕ) → limit ≤ 128 → n < span 64 m → septets (leb false limit m n) ≡ n
leb_sum limit zero n l h = omega arith
leb_sum limit (suc m) n l h = grind (arith, leb_sum limit m (n / 128) l, rest_below)

-- the sum of the septets of a negative number
flipped_step : (p s n : ℕ) → s + n / 128 + 1 ≡ p → (127 - n % 128 + 128) % 128 + 128 * s + n + 1 ≡ 128 * p
flipped_step p s n h = omega arith

flipped_last : (n : ℕ) → n < 128 → (127 - n) % 128 + 128 * 0 + n + 1 ≡ 128
flipped_last n h = omega arith

leb_flipped : (limit m n : ℕ) → limit ≤ 128 → n < span 64 m → septets (leb true limit m n) + n + 1 ≡ 128 ^ length (leb true limit m n)
leb_flipped limit zero n l h = omega arith
leb_flipped limit (suc m) n l h = grind (arith, leb_flipped limit m (n / 128) l, pow_more, rest_below, flipped_step, flipped_last)

-- a number below half of what its septets can count
leb_half : (flips : Bool) (m n : ℕ) → n < span 64 m → 2 * n + 2 ≤ 128 ^ length (leb flips 64 m n)
leb_half flips zero n h = omega arith
leb_half flips (suc m) n h = grind (arith, leb_half flips m (n / 128), pow_more, rest_below)

-- the last septet, if there are as many as may be
pub record Top (flips : Bool) (last : ℕ) (byte : ℕ) : Type 0 where
  pub septet_is : ℕ
  pub low : septet_is < last
  pub is : byte ≡ septet flips septet_is

top_step : (flips : Bool) (limit last m n : ℕ) (later : List ℕ) (t : Bool) → nat_lt n limit ≡ t
    → (length (leb flips limit m (n / 128)) ≡ suc m → Top flips last (slice_index (leb flips limit m (n / 128) ++ later) m))
    → length (cond t (septet flips n ∷ []) ((septet flips (n % 128) + 128) ∷ leb flips limit m (n / 128))) ≡ suc (suc m)
    → Top flips last (slice_index (cond t (septet flips n ∷ [])
    ((septet flips (n % 128) + 128) ∷ leb flips limit m (n / 128)) ++ later) (suc m))
top_step flips limit last m n later true is h e = absurd (omega (arith, e))
top_step flips limit last m n later false is h e = h (omega (arith, e))

leb_top : (flips : Bool) (limit last m n : ℕ) (later : List ℕ) → n < span last m → length (leb flips limit m n) ≡ suc m
    → Top flips last (slice_index (leb flips limit m n ++ later) m)
leb_top flips limit last zero n later h e = record { septet_is = n; low = h; is = refl }
leb_top flips limit last (suc m) n later h e = top_step flips limit last m n later (nat_lt n limit) refl
    (leb_top flips limit last m (n / 128) later (rest_below (span last m) n h)) e

-- ---- reading them

ends_so : (kind : NumberKind) (bytes xs : List ℕ) (i n : ℕ) → length xs ≡ suc i → suc i ≤ most_bytes kind → take (suc i) bytes ≡ xs
    → septets xs ≡ n → (suc i ≡ most_bytes kind → is_unused_right kind (slice_index bytes i) ≡ true)
    → ends_at kind bytes (Some i) ≡ read n (length xs)
ends_so kind bytes xs i n e most taken sum top = grind (arith, lt-ltb, le-ltb)

number_of : (kind : NumberKind) (xs later : List ℕ) (i n : ℕ) → length xs ≡ suc i → suc i ≤ most_bytes kind
    → last_place (xs ++ later) ≡ Some i → septets xs ≡ n
    → (suc i ≡ most_bytes kind → is_unused_right kind (slice_index (xs ++ later) i) ≡ true)
    → number kind (xs ++ later) ≡ read n (length xs)
unfolding number
number_of kind xs later i n e most last sum top =
    let taken : take (suc i) (xs ++ later) ≡ xs = rw (← e) (take-append_seam xs later) in
    ap (ends_at kind (xs ++ later)) last ∙ ends_so kind (xs ++ later) xs i n e most taken sum top

pub unsigned_read : (kind : NumberKind) (features offset n : ℕ) (bytes later : List ℕ)
    → number kind (bytes ++ later) ≡ read n (length bytes)
    → unsigned_at kind (spot features offset (bytes ++ later)) ≡ Ok (n, spot features (offset + length bytes) later)
unfolding unsigned_at
unsigned_read kind features offset n bytes later h =
    ap (in_window (spot features offset (bytes ++ later))) h
    ∙ ap (λ (rest : List ℕ). Ok (n, spot features (offset + length bytes) rest)) (drop-append_seam bytes later)

-- what a kind of number allows: this many bytes but one, and this bound of the last septet if there are as many bytes
-- as may be
pub record Widest (kind : NumberKind) (flips : Bool) (last before : ℕ) : Type 0 where
  pub most : suc before ≡ most_bytes kind
  pub unused : (n : ℕ) → n < last → is_unused_right kind (septet flips n) ≡ true

-- the bytes of a number that fits its kind
leb_back : (kind : NumberKind) (flips : Bool) (limit last m n : ℕ) (later : List ℕ) → Widest kind flips last m → limit ≤ 128
    → n < span 64 m → n < span last m
    → number kind (leb flips limit m n ++ later) ≡ read (septets (leb flips limit m n)) (length (leb flips limit m n))
leb_back kind flips limit last m n later w l h k =
    let xs : List ℕ = leb flips limit m n in
    let i : ℕ = length xs - 1 in
    let some : 1 ≤ length xs = leb_least flips limit m n in
    let few : length xs ≤ suc m = leb_most flips limit m n in
    let e : length xs ≡ suc i = omega (arith, some) in
    number_of kind xs later i (septets xs) e (omega (arith, few, w.most, e)) (leb_ends flips limit m n later l h) refl
    (λ f. let all : length xs ≡ suc m = omega (arith, e, f, w.most) in
    let top = leb_top flips limit last m n later k all in
    let j : m ≡ i = omega (arith, all, e) in
    rw (← j) (rw top.is (w.unused top.septet_is top.low)))

-- fewer septets do for a smaller number
enough : (flips : Bool) (limit k m n : ℕ) → 64 ≤ limit → n < span 64 m → leb flips limit (k + m) n ≡ leb flips limit m n
enough flips limit zero m n l h = ap (λ (j : ℕ). leb flips limit j n) (let e : 0 + m ≡ m = omega arith in e)
enough flips limit (suc k) m n l h =
    let e : suc k + m ≡ suc (k + m) = omega arith in
    ap (λ (j : ℕ). leb flips limit j n) e ∙ (leb_enough flips limit (k + m) n l (span_more k m n h) ∙ enough flips limit k m n l h)
  where
    span_more : (k m n : ℕ) → n < span 64 m → n < span 64 (k + m)
    span_more zero m n h = let e : 0 + m ≡ m = omega arith in rw e h
    span_more (suc k) m n h = let e : suc k + m ≡ suc (k + m) = omega arith in let ih = span_more k m n h in rw e (omega (arith, ih))

u32_widest : Widest VarU32 false 16 4
u32_widest = record { most = refl; unused = λ n h. lt-ltb n 16 h }

u64_widest : Widest VarU64 false 2 9
u64_widest = record { most = refl; unused = λ n h. lt-ltb n 2 h }

pub unsigned_back : (kind : NumberKind) (n : ℕ) (later : List ℕ) → is_signed kind ≡ false → n < 2 ^ bits_of kind
    → number kind (unsigned_bytes n ++ later) ≡ read n (length (unsigned_bytes n))
unfolding septets_of
unsigned_back VarI32 n later s h = cc
unsigned_back VarI64 n later s h = cc
unsigned_back VarS33 n later s h = cc
unsigned_back VarU32 n later s h =
    rw (enough false 128 5 4 n (omega arith) (omega arith))
    (leb_back VarU32 false 128 16 4 n later u32_widest (omega arith) (omega arith) (omega arith)
    ∙ ap (λ (sum : ℕ). read sum (length (leb false 128 4 n))) (leb_sum 128 4 n (omega arith) (omega arith)))
unsigned_back VarU64 n later s h =
    leb_back VarU64 false 128 2 9 n later u64_widest (omega arith) (omega arith) (omega arith)
    ∙ ap (λ (sum : ℕ). read sum (length (leb false 128 9 n))) (leb_sum 128 9 n (omega arith) (omega arith))

pub unsigned_at_spot : (kind : NumberKind) (features offset n : ℕ) (later : List ℕ) → is_signed kind ≡ false → n < 2 ^ bits_of kind
    → unsigned_at kind (spot features offset (unsigned_bytes n ++ later))
    ≡ Ok (n, spot features (offset + length (unsigned_bytes n)) later)
unsigned_at_spot kind features offset n later s h =
    unsigned_read kind features offset n (unsigned_bytes n) later (unsigned_back kind n later s h)

pub unsigned_encodes : (kind : NumberKind) (features n : ℕ) → is_signed kind ≡ false → n < 2 ^ bits_of kind
    → Encodes (ReadsAs (λ (m : ℕ). m) (unsigned_at kind)) features (λ (offset : ℕ). n) (unsigned_bytes n)
unsigned_encodes kind features n s h = record { read = λ offset later. unsigned_at_spot kind features offset n later s h }

-- ---- signed numbers

value_positive : (n used : ℕ) → 2 * n + 2 ≤ 128 ^ used → signed_value n used ≡ pos n
value_positive n used h =
    let s : nat_lt (2 * n) (2 ^ (7 * used)) ≡ true = lt-ltb (2 * n) (2 ^ (7 * used)) (rw seven_bits (omega arith)) in
    ap (λ (t : Bool). cond t (pos n) (pos n -ℤ pos (2 ^ (7 * used)))) s

value_negative : (sum n used : ℕ) → sum + n + 1 ≡ 128 ^ used → 2 * n + 2 ≤ 128 ^ used → signed_value sum used ≡ negsuc n
value_negative sum n used e h =
    let p : 2 ^ (7 * used) ≡ 128 ^ used = seven_bits used in
    let s : nat_lt (2 * sum) (2 ^ (7 * used)) ≡ false = le-ltb (2 * sum) (2 ^ (7 * used)) (omega (arith, p)) in
    let d : pos sum -ℤ pos (2 ^ (7 * used)) ≡ negsuc n = omega (arith, ints, p) in
    ap (λ (t : Bool). cond t (pos sum) (pos sum -ℤ pos (2 ^ (7 * used)))) s ∙ d

pub signed_read : (kind : NumberKind) (features offset sum : ℕ) (n : ℤ) (bytes later : List ℕ)
    → number kind (bytes ++ later) ≡ read sum (length bytes) → signed_value sum (length bytes) ≡ n
    → signed_at kind (spot features offset (bytes ++ later)) ≡ Ok (n, spot features (offset + length bytes) later)
unfolding signed_at
signed_read kind features offset sum n bytes later h v =
    let d : offset + length bytes - offset ≡ length bytes = omega arith in
    rw (unsigned_read kind features offset sum bytes later h) (rw (d, v) refl)

i32_widest : (flips : Bool) → Widest VarI32 flips 8 4
i32_widest false = record { most = refl; unused = λ n h. rw (lt-ltb n 8 h) refl }
i32_widest true = record { most = refl; unused = λ n h. high n h }
  where
    high : (n : ℕ) → n < 8 → is_unused_right VarI32 (127 - n) ≡ true
    high n h = rw (le-ltb (127 - n) 8 (omega arith)) (le-leb 120 (127 - n) (omega arith))

s33_widest : (flips : Bool) → Widest VarS33 flips 16 4
s33_widest false = record { most = refl; unused = λ n h. rw (lt-ltb n 16 h) refl }
s33_widest true = record { most = refl; unused = λ n h. high n h }
  where
    high : (n : ℕ) → n < 16 → is_unused_right VarS33 (127 - n) ≡ true
    high n h = rw (le-ltb (127 - n) 16 (omega arith)) (le-leb 112 (127 - n) (omega arith))

i64_widest : (flips : Bool) → Widest VarI64 flips 1 9
i64_widest false = record { most = refl; unused = λ n h. rw (lt-ltb n 1 h) refl }
i64_widest true = record { most = refl; unused = λ n h. high n h }
  where
    high : (n : ℕ) → n < 1 → is_unused_right VarI64 (127 - n) ≡ true
    high n h = rw (le-ltb (127 - n) 1 (omega arith)) (le-leb 127 (127 - n) (omega arith))

-- the value of a number by its septets
abbrev signed_sum : (flips : Bool) (n : ℕ) → ℤ
signed_sum false n = pos n
signed_sum true n = negsuc n

leb_value : (flips : Bool) (m n : ℕ) → n < span 64 m
    → signed_value (septets (leb flips 64 m n)) (length (leb flips 64 m n)) ≡ signed_sum flips n
leb_value false m n h =
    let half = leb_half false m n h in
    rw (leb_sum 64 m n (omega arith) h) (value_positive n (length (leb false 64 m n)) half)
leb_value true m n h =
    value_negative (septets (leb true 64 m n)) n (length (leb true 64 m n)) (leb_flipped 64 m n (omega arith) h) (leb_half true m n h)

septets_back : (kind : NumberKind) (flips : Bool) (last k m n features offset : ℕ) (later : List ℕ) → Widest kind flips last m → k + m ≡ 9
    → n < span 64 m → n < span last m
    → signed_at kind (spot features offset (septets_of flips 64 n ++ later))
    ≡ Ok (signed_sum flips n, spot features (offset + length (septets_of flips 64 n)) later)
unfolding septets_of
septets_back kind flips last k m n features offset later w e h l =
    let s : leb flips 64 9 n ≡ leb flips 64 m n = ap (λ (j : ℕ). leb flips 64 j n) (sym e) ∙ enough flips 64 k m n (omega arith) h in
    rw s (signed_read kind features offset (septets (leb flips 64 m n)) (signed_sum flips n) (leb flips 64 m n) later
    (leb_back kind flips 64 last m n later w (omega arith) h l) (leb_value flips m n h))

pub signed_at_spot : (kind : NumberKind) (features offset : ℕ) (n : ℤ) (later : List ℕ) → is_signed kind ≡ true → FitsBits (bits_of kind) n
    → signed_at kind (spot features offset (signed_bytes n ++ later)) ≡ Ok (n, spot features (offset + length (signed_bytes n)) later)
signed_at_spot VarU32 features offset n later s f = cc
signed_at_spot VarU64 features offset n later s f = cc
signed_at_spot VarI32 features offset (pos n) later s f =
    let h : n < 2147483648 = omega (arith, ints, f.1) in
    septets_back VarI32 false 8 5 4 n features offset later (i32_widest false) refl (omega arith) h
signed_at_spot VarI32 features offset (negsuc n) later s f =
    let h : n < 2147483648 = omega (arith, ints, f.0) in
    septets_back VarI32 true 8 5 4 n features offset later (i32_widest true) refl (omega arith) h
signed_at_spot VarS33 features offset (pos n) later s f =
    let h : n < 4294967296 = omega (arith, ints, f.1) in
    septets_back VarS33 false 16 5 4 n features offset later (s33_widest false) refl (omega arith) h
signed_at_spot VarS33 features offset (negsuc n) later s f =
    let h : n < 4294967296 = omega (arith, ints, f.0) in
    septets_back VarS33 true 16 5 4 n features offset later (s33_widest true) refl (omega arith) h
signed_at_spot VarI64 features offset (pos n) later s f =
    let h : n < 9223372036854775808 = omega (arith, ints, f.1) in
    septets_back VarI64 false 1 0 9 n features offset later (i64_widest false) refl (omega arith) h
signed_at_spot VarI64 features offset (negsuc n) later s f =
    let h : n < 9223372036854775808 = omega (arith, ints, f.0) in
    septets_back VarI64 true 1 0 9 n features offset later (i64_widest true) refl (omega arith) h

pub signed_encodes : (kind : NumberKind) (features : ℕ) (n : ℤ) → is_signed kind ≡ true → FitsBits (bits_of kind) n
    → Encodes (ReadsAs (λ (m : ℤ). m) (signed_at kind)) features (λ (offset : ℕ). n) (signed_bytes n)
signed_encodes kind features n s f = record { read = λ offset later. signed_at_spot kind features offset n later s f }

-- ---- flags, which are numbers below 128

-- a number of one byte
pub small_back : (n features offset : ℕ) (later : List ℕ) → n < 128
    → unsigned_at VarU32 (spot features offset (n ∷ later)) ≡ Ok (n, spot features (offset + 1) later)
small_back n features offset later h =
    subst (λ (bytes : List ℕ).
    unsigned_at VarU32 (spot features offset (bytes ++ later)) ≡ Ok (n, spot features (offset + length bytes) later))
    (septets_last false 128 n h) (unsigned_at_spot VarU32 features offset n later refl (omega arith))

-- flags, which are at most a number
pub flags_back : (most n features offset : ℕ) (later : List ℕ) → n ≤ most → n < 128
    → flags_at most (spot features offset (n ∷ later)) ≡ Ok (Some n, spot features (offset + 1) later)
unfolding flags_at
flags_back most n features offset later h small = rw (small_back n features offset later small, le-ltb most n h) refl
