-- Signed numbers have as many bits as their kind allows.
use Rattle.std.proofs.Common.{◌≡◌, ℕ, zero, suc, ◌+◌, ◌-◌, ◌*◌, ◌%◌, ◌^◌, ◌<◌, ◌≤◌, ◌⊎◌, inl, inr, Bool, true, false, cond, List, [], ◌∷◌}
use Rattle.std.proofs.Common.{length, take, slice_index, Option, Some, None, option_map, nat_lt, nat_le, ◌||◌, Ok, refl, sym, ap, ◌∙◌}
use Rattle.std.proofs.Common.{subst, arith, ltb-true, ltb-false, lit≤, pos, ◌-ℤ◌, ◌≤ℤ◌, ◌<ℤ◌, ℤ}
use Rattle.std.proofs.lemmas.Bool.{leb-true}
use Rattle.std.proofs.lemmas.Int.{ints}
use Rattle.std.proofs.Math.Nat.{pow-succ', pow-le-pow_right, mul-le-mul_left, mul_assoc}
use Rattle.wasm_base.specs.Number.{Number, read, bad, short, most_bytes, bits_of, is_unused_right, last_place, septets, ends_at, number}
use Rattle.wasm_base.specs.Number.{in_window, unsigned_at}
use Rattle.wasm_base.specs.Signed.{signed_value, FitsBits}
use Rattle.wasm_base.specs.Widths.{is_signed}
use Rattle.wasm_base.specs.Window.{Place, advanced}
use Rattle.wasm_base.specs.declared.fault.Fault.{Fault}
use Rattle.wasm_base.specs.declared.fault.NumberKind.{NumberKind}
use Rattle.wasm_base.specs.declared.fault.NumberKind.TheVariants.{VarU32, VarI32, VarU64, VarI64, VarS33}
use Rattle.wasm_base.proofs.NumberLaws.{last_place-lt, number-used}

low_step : (t : Bool) (x : ℕ) (xs : List ℕ) (o : Option ℕ) (i : ℕ) → nat_lt x 128 ≡ t → ((j : ℕ) → o ≡ Some j → slice_index xs j < 128)
    → cond t (Some 0) (option_map suc o) ≡ Some i → slice_index (x ∷ xs) i < 128
low_step true x xs o i e h k = let z : 0 ≡ i = cc in rw (← z) (ltb-true x 128 e)
low_step false x xs None i e h k = cc
low_step false x xs (Some j) i e h k = let z : suc j ≡ i = cc in rw (← z) (h j refl)

-- the last byte is below 128
last_place-low : (xs : List ℕ) (i : ℕ) → last_place xs ≡ Some i → slice_index xs i < 128
last_place-low [] i e = cc
last_place-low (x ∷ xs) i e = low_step (nat_lt x 128) x xs (last_place xs) i refl (λ j. last_place-low xs j) e

-- the septets up to a byte, between the weight of its own and of one more
septets_within : (i : ℕ) (xs : List ℕ) → i < length xs → (128 ^ i * (slice_index xs i % 128) ≤ septets (take (suc i) xs))
    × (septets (take (suc i) xs) < 128 ^ i * (slice_index xs i % 128 + 1))
septets_within i [] h = absurd (omega arith)
septets_within zero (x ∷ xs) h = (omega arith, omega arith)
septets_within (suc i) (x ∷ xs) h =
    let ih = septets_within i xs (omega arith) in
    let v : 128 ^ suc i * (slice_index xs i % 128) ≡ 128 * (128 ^ i * (slice_index xs i % 128)) =
    rw pow-succ' (mul_assoc 128 (128 ^ i) (slice_index xs i % 128)) in
    let w : 128 ^ suc i * (slice_index xs i % 128 + 1) ≡ 128 * (128 ^ i * (slice_index xs i % 128 + 1)) =
    rw pow-succ' (mul_assoc 128 (128 ^ i) (slice_index xs i % 128 + 1)) in
    (rw v (omega (arith, ih.0)), rw w (omega (arith, ih.1)))

-- seven bits a septet
pub seven_bits : (n : ℕ) → 2 ^ (7 * n) ≡ 128 ^ n
seven_bits zero = refl
seven_bits (suc n) =
    let e : 7 * suc n ≡ suc (suc (suc (suc (suc (suc (suc (7 * n))))))) = omega arith in
    let s : (k : ℕ) → 2 ^ suc k ≡ 2 * 2 ^ k = λ k. pow-succ' 2 k in
    let m : ℕ = 7 * n in
    let h : 2 ^ suc (suc (suc (suc (suc (suc (suc m)))))) ≡ 128 * 2 ^ m =
    omega (
      arith,
      s m,
      s (suc m),
      s (suc (suc m)),
      s (suc (suc (suc m))),
      s (suc (suc (suc (suc m)))),
      s (suc (suc (suc (suc (suc m))))),
      s (suc (suc (suc (suc (suc (suc m)))))),
    ) in
    ap (λ k. 2 ^ k) e ∙ h ∙ ap (λ k. 128 * k) (seven_bits n) ∙ sym (pow-succ' 128 n)

-- a sum below a span has a value within half the span: itself if its top bit is not set, and otherwise itself less the span
value_fits : (sum span half : ℕ) (t : Bool) → nat_lt (2 * sum) span ≡ t → (2 * sum < span → sum < half)
    → (span ≤ 2 * sum → span ≤ sum + half) → sum < span
    → ((pos 0 -ℤ pos half) ≤ℤ cond t (pos sum) (pos sum -ℤ pos span)) × (cond t (pos sum) (pos sum -ℤ pos span) <ℤ pos half)
value_fits sum span half true e low high below = let h : sum < half = low (ltb-true (2 * sum) span e) in
    (omega (arith, ints), omega (arith, ints))
value_fits sum span half false e low high below = let h : span ≤ sum + half = high (ltb-false (2 * sum) span e) in
    (omega (arith, ints), omega (arith, ints))

or_of : (a b : Bool) → (a || b) ≡ true → (a ≡ true) ⊎ (b ≡ true)
or_of true b h = inl refl
or_of false b h = inr h

-- a number that takes fewer bytes than it may
fits_early : (sum i n half : ℕ) → i < n → 128 ^ n ≤ half → sum < 128 ^ suc i → (2 * sum < 128 ^ suc i → sum < half)
    × (128 ^ suc i ≤ 2 * sum → 128 ^ suc i ≤ sum + half)
fits_early sum i n half h w below =
    let p : 128 ^ suc i ≤ 128 ^ n = pow-le-pow_right {n = 128} (omega arith) {i = suc i} {j = n} (omega arith) in
    ((λ _. omega (arith, p, w, below)), (λ _. omega (arith, p, w, below)))

-- the two facts of a sum, and of the byte that ends it, that a value needs
abbrev Within : (sum b w : ℕ) → Type 0
Within sum b w = (w * b ≤ sum) × (sum < w * (b + 1)) × (b < 128)

abbrev Halved : (sum span half : ℕ) → Type 0
Halved sum span half = (2 * sum < span → sum < half) × (span ≤ 2 * sum → span ≤ sum + half)

last_i32 : (sum b : ℕ) → Within sum b 268435456 → (b < 8) ⊎ (120 ≤ b) → Halved sum 34359738368 2147483648
last_i32 sum b w (inl h) = ((λ _. omega (arith, w.0, w.1, h)), (λ k. omega (arith, w.0, w.1, h, k)))
last_i32 sum b w (inr h) = ((λ k. omega (arith, w.0, w.1, h, k)), (λ _. omega (arith, w.0, w.1, h)))

last_s33 : (sum b : ℕ) → Within sum b 268435456 → (b < 16) ⊎ (112 ≤ b) → Halved sum 34359738368 4294967296
last_s33 sum b w (inl h) = ((λ _. omega (arith, w.0, w.1, h)), (λ k. omega (arith, w.0, w.1, h, k)))
last_s33 sum b w (inr h) = ((λ k. omega (arith, w.0, w.1, h, k)), (λ _. omega (arith, w.0, w.1, h)))

last_i64 : (sum b : ℕ) → Within sum b 9223372036854775808 → (b < 1) ⊎ (127 ≤ b) → Halved sum 1180591620717411303424 9223372036854775808
last_i64 sum b w (inl h) = ((λ _. omega (arith, w.0, w.1, h)), (λ k. omega (arith, w.0, w.1, h, k)))
last_i64 sum b w (inr h) = ((λ k. omega (arith, w.0, w.1, h, k)), (λ _. omega (arith, w.0, w.1, h)))

either : (b low high : ℕ) → (nat_lt b low || nat_le high b) ≡ true → (b < low) ⊎ (high ≤ b)
either b low high h = elim (or_of (nat_lt b low) (nat_le high b) h) [ inl e ↦ inl (ltb-true b low e) | inr e ↦ inr (leb-true high b e) ]

-- the septets of a signed number, against its span
halved : (kind : NumberKind) (i sum b : ℕ) → is_signed kind ≡ true → (suc i < most_bytes kind)
    ⊎ ((suc i ≡ most_bytes kind) × (is_unused_right kind b ≡ true)) → Within sum b (128 ^ i) → sum < 128 ^ suc i
    → Halved sum (128 ^ suc i) (2 ^ (bits_of kind - 1))
halved VarU32 i sum b e l w h = cc
halved VarU64 i sum b e l w h = cc
halved VarI32 i sum b e (inl l) w h = fits_early sum i 4 2147483648 (omega arith) (lit≤ tt) h
halved VarS33 i sum b e (inl l) w h = fits_early sum i 4 4294967296 (omega arith) (lit≤ tt) h
halved VarI64 i sum b e (inl l) w h = fits_early sum i 9 9223372036854775808 (omega arith) (lit≤ tt) h
halved VarI32 i sum b e (inr l) w h = let z : i ≡ 4 = omega (arith, l.0) in
    subst (λ (j : ℕ). Halved sum (128 ^ suc j) 2147483648) (sym z)
    (last_i32 sum b (subst (λ (j : ℕ). Within sum b (128 ^ j)) z w) (either b 8 120 l.1))
halved VarS33 i sum b e (inr l) w h = let z : i ≡ 4 = omega (arith, l.0) in
    subst (λ (j : ℕ). Halved sum (128 ^ suc j) 4294967296) (sym z)
    (last_s33 sum b (subst (λ (j : ℕ). Within sum b (128 ^ j)) z w) (either b 16 112 l.1))
halved VarI64 i sum b e (inr l) w h = let z : i ≡ 9 = omega (arith, l.0) in
    subst (λ (j : ℕ). Halved sum (128 ^ suc j) 9223372036854775808) (sym z)
    (last_i64 sum b (subst (λ (j : ℕ). Within sum b (128 ^ j)) z w) (either b 1 127 l.1))

-- what a number that is read says of its last byte
pub record LastByte (kind : NumberKind) (xs : List ℕ) (sum used : ℕ) : Type 0 where
  pub place : ℕ
  pub counted : suc place ≡ used
  pub is : last_place xs ≡ Some place
  pub sums : septets (take (suc place) xs) ≡ sum
  pub right : (suc place < most_bytes kind) ⊎ ((suc place ≡ most_bytes kind) × (is_unused_right kind (slice_index xs place) ≡ true))

last_tests : (a b c : Bool) (m i w p q : ℕ) (f g : Fault) (v k : ℕ) → nat_lt (suc i) m ≡ a → nat_lt m (suc i) ≡ b
    → cond a (read w (suc i)) (cond b (bad f p) (cond c (read w (suc i)) (bad g q))) ≡ read v k
    → (suc i ≡ k) × (w ≡ v) × ((suc i < m) ⊎ ((suc i ≡ m) × (c ≡ true)))
last_tests true b c m i w p q f g v k s t e = (cc, cc, inl (ltb-true (suc i) m s))
last_tests false true c m i w p q f g v k s t e = cc
last_tests false false true m i w p q f g v k s t e = (cc, cc, inr (omega (arith, ltb-false (suc i) m s, ltb-false m (suc i) t), refl))
last_tests false false false m i w p q f g v k s t e = cc

no_last : (t : Bool) (f : Fault) (p v k : ℕ) → cond t short (bad f p) ≡ read v k → ⊥
no_last true f p v k e = cc
no_last false f p v k e = cc

last_at : (kind : NumberKind) (xs : List ℕ) (o : Option ℕ) (v k : ℕ) → last_place xs ≡ o → ends_at kind xs o ≡ read v k
    → LastByte kind xs v k
last_at kind xs None v k e r = absurd (no_last (nat_lt (length xs) (most_bytes kind)) _ _ v k r)
last_at kind xs (Some i) v k e r =
    let t = last_tests (nat_lt (suc i) (most_bytes kind)) (nat_lt (most_bytes kind) (suc i)) (is_unused_right kind (slice_index xs i))
    (most_bytes kind) i _ _ _ _ _ v k refl refl r in
    record { place = i; counted = t.0; is = e; sums = t.1; right = t.2 }

last_byte : (kind : NumberKind) (xs : List ℕ) (v k : ℕ) → number kind xs ≡ read v k → LastByte kind xs v k
unfolding number
last_byte kind xs v k r = last_at kind xs (last_place xs) v k refl r

number_fits : (kind : NumberKind) (xs : List ℕ) (sum used : ℕ) → is_signed kind ≡ true → number kind xs ≡ read sum used
    → FitsBits (bits_of kind) (signed_value sum used)
number_fits kind xs sum used signed r =
    let l = last_byte kind xs sum used r in
    let i : ℕ = l.place in
    let b : ℕ = slice_index xs i in
    let byte : b < 128 = last_place-low xs i l.is in
    let g = septets_within i xs (last_place-lt xs i l.is) in
    let m : b % 128 ≡ b = omega (arith, byte) in
    let low : 128 ^ i * b ≤ sum = subst (λ (n : ℕ). 128 ^ i * b ≤ n) l.sums
    (subst (λ (n : ℕ). 128 ^ i * n ≤ septets (take (suc i) xs)) m g.0) in
    let high : sum < 128 ^ i * (b + 1) = subst (λ (n : ℕ). n < 128 ^ i * (b + 1)) l.sums
    (subst (λ (n : ℕ). septets (take (suc i) xs) < 128 ^ i * (n + 1)) m g.1) in
    let top : 128 ^ i * (b + 1) ≤ 128 ^ i * 128 = mul-le-mul_left (128 ^ i) (omega (arith, byte)) in
    let below : sum < 128 ^ suc i = omega (arith, high, top, pow-succ' 128 i) in
    let h = halved kind i sum b signed l.right (low, high, byte) below in
    let span : 2 ^ (7 * used) ≡ 128 ^ suc i = seven_bits used ∙ ap (λ n. 128 ^ n) (sym l.counted) in
    subst (λ (n : ℕ). FitsBits (bits_of kind) (cond (nat_lt (2 * sum) n) (pos sum) (pos sum -ℤ pos n))) (sym span)
    (value_fits sum (128 ^ suc i) (2 ^ (bits_of kind - 1)) (nat_lt (2 * sum) (128 ^ suc i)) refl h.0 h.1 below)

widened : (kind : NumberKind) (n : ℤ) → FitsBits (bits_of kind) n → FitsBits 64 n
widened VarU32 n f = (omega (arith, ints, f.0), omega (arith, ints, f.1))
widened VarI32 n f = (omega (arith, ints, f.0), omega (arith, ints, f.1))
widened VarS33 n f = (omega (arith, ints, f.0), omega (arith, ints, f.1))
widened VarU64 n f = f
widened VarI64 n f = f

-- what holds of a signed number that is read from one offset to another: it has at most ten bytes, and the bits of its kind
pub record SignedRead (kind : NumberKind) (sum used : ℕ) : Type 0 where
  pub few : used ≤ 10
  pub fits : FitsBits (bits_of kind) (signed_value sum used)
  pub widest : FitsBits 64 (signed_value sum used)

pub signed_read : (kind : NumberKind) (p after : Place) (sum start end : ℕ) → is_signed kind ≡ true → unsigned_at kind p ≡ Ok (sum, after)
    → start ≡ p.offset → end ≡ after.offset → SignedRead kind sum (end - start)
unfolding unsigned_at
signed_read kind p after sum start end signed e from to = by (number kind p.rest) refl e
  where
    ten : (kind : NumberKind) → most_bytes kind ≤ 10
    ten VarU32 = omega arith
    ten VarI32 = omega arith
    ten VarS33 = omega arith
    ten VarU64 = omega arith
    ten VarI64 = omega arith

    by : (n : Number) → number kind p.rest ≡ n → in_window p n ≡ Ok (sum, after) → SignedRead kind sum (end - start)
    by (bad fault i) is e = cc
    by short is e = cc
    by (read s used) is e =
        let left : ℕ × Place = (s, advanced used p) in
        let right : ℕ × Place = (sum, after) in
        let both : left ≡ right = cc in
        let same : s ≡ sum = ap (λ z. z.0) both in
        let moved : p.offset + used ≡ after.offset = ap (λ z. z.1.offset) both in
        let u : used ≡ end - start = omega (arith, moved, from, to) in
        let w = (number-used kind p.rest s used is).within in
        let fits : FitsBits (bits_of kind) (signed_value s used) = number_fits kind p.rest s used signed is in
        let here : FitsBits (bits_of kind) (signed_value sum (end - start)) =
        subst (λ (n : ℕ). FitsBits (bits_of kind) (signed_value n (end - start))) same
        (subst (λ (n : ℕ). FitsBits (bits_of kind) (signed_value s n)) u fits) in
        record { few = omega (arith, u, w, ten kind); fits = here; widest = widened kind (signed_value sum (end - start)) here }
