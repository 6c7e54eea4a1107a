-- Numbers, as the code finds them: the last byte by a search, the sum by a loop.
use Rattle.std.proofs.Common.{◌≡◌, ◌≢◌, ℕ, zero, suc, ◌+◌, ◌-◌, ◌*◌, ◌%◌, ◌^◌, ◌<◌, ◌≤◌, ◌⊎◌, inl, inr, Bool, true, false, cond, List, []}
use Rattle.std.proofs.Common.{◌∷◌, length, take, drop, get_or, slice_index, Option, Some, None, option_map, nat_lt, refl, sym, ap, ◌∙◌}
use Rattle.std.proofs.Common.{arith, add-one, ltb-true, lt-ltb, le-ltb, le_trans, lit≤, zero-add}
use Rattle.wasm_base.proofs.NumberLaws.{last_place-lt}
use Rattle.std.specs.Prelude.{position}
use Rattle.std.specs.List.{position_from}
use Rattle.std.proofs.Math.Nat.{pow-succ', pow-le-pow_right, mul-le-mul_left, mul-le-mul_right, mul_assoc}
use Rattle.std.proofs.lemmas.Iterator.Adapters.{position_from-zero}
use Rattle.std.proofs.lemmas.List.{at_drop_more}
use Rattle.wasm_base.specs.Septets.{is_last, sum_bound}
use Rattle.wasm_base.specs.Number.{read, bad, short, most_bytes, is_unused_right, last_place, septets, ends_at, number}
use Rattle.wasm_base.specs.declared.fault.NumberKind.{NumberKind}
use Rattle.wasm_base.specs.declared.fault.NumberKind.TheVariants.{VarU32, VarI32, VarU64, VarI64, VarS33}
use Rattle.wasm_base.specs.declared.fault.Fault.TheVariants.{NumberTooLong, NumberTooLarge}

-- the weight of the next septet
pub weight_next : (weight i : ℕ) → weight ≡ 128 ^ i → weight * 128 ≡ 128 ^ (i + 1)
weight_next weight i is = rw (add-one, pow-succ') (omega arith)

-- a weight that fits
pub weight_below : (weight i n : ℕ) → weight ≡ 128 ^ i → i < n → n ≤ 10 → weight ≤ 2 ^ 63
weight_below weight i n is lt le =
    let p : 128 ^ i ≤ 128 ^ 9 = pow-le-pow_right {n = 128} (omega arith) {i = i} {j = 9} (omega arith) in
    omega arith

-- one septet goes into the sum
pub one_more : (bytes : List ℕ) (sum weight i total : ℕ) → i < length bytes → sum + weight * septets (drop i bytes) ≡ total
    → sum + get_or bytes i 0 % 128 * weight + weight * 128 * septets (drop (i + 1) bytes) ≡ total
one_more bytes sum weight i total lt so_far =
    let e = at_drop_more septets bytes i 0 lt in
    let h = rw e at so_far in
    omega (arith, h)

-- one septet at its weight
pub small_product : (septet weight : ℕ) → septet < 128 → septet * weight ≤ 127 * weight
small_product septet weight lt =
    let le : septet ≤ 127 = omega arith in
    omega (arith, mul-le-mul_left weight le)

-- the place that a search among the first bytes has found, counted from k
pub record FoundFrom (limit : ℕ) (xs : List ℕ) (k j : ℕ) : Type 0 where
  pub place : ℕ
  pub counted : j ≡ k + place
  pub last : last_place xs ≡ Some place
  pub allowed : place < limit
  pub there : place < length xs

found_step : (t : Bool) (limit : ℕ) (x : ℕ) (xs : List ℕ) (k j : ℕ) → nat_lt x 128 ≡ t
    → (position_from is_last (k + 1) (take limit xs) ≡ Some j → FoundFrom limit xs (k + 1) j)
    → cond t (Some k) (position_from is_last (k + 1) (take limit xs)) ≡ Some j → FoundFrom (suc limit) (x ∷ xs) k j
found_step true limit x xs k j e ih h =
    let z : k ≡ j = cc in
    record { place = 0; counted = omega arith; last = rw e refl; allowed = omega arith; there = omega arith }
found_step false limit x xs k j e ih h =
    let f : FoundFrom limit xs (k + 1) j = ih h in
    let (c, a, b) : (j ≡ k + 1 + f.place) × (f.place < limit) × (f.place < length xs) = (f.counted, f.allowed, f.there) in
    record { place = suc f.place; counted = omega arith; last = rw e (rw (f.last) refl); allowed = omega arith; there = omega arith }

found_from : (limit : ℕ) (xs : List ℕ) (k j : ℕ) → position_from is_last k (take limit xs) ≡ Some j → FoundFrom limit xs k j
found_from zero [] k j h = cc
found_from zero (x ∷ xs) k j h = cc
found_from (suc limit) [] k j h = cc
found_from (suc limit) (x ∷ xs) k j h = found_step (nat_lt x 128) limit x xs k j refl (found_from limit xs (k + 1) j) h

-- no last byte is among the first bytes
abbrev NoneBelow : ℕ → Option ℕ → Type 0
NoneBelow limit None = Unit {0}
NoneBelow limit (Some i) = limit ≤ i

none_shift : (limit : ℕ) (o : Option ℕ) → NoneBelow limit o → NoneBelow (suc limit) (option_map suc o)
none_shift limit None h = tt
none_shift limit (Some i) h = omega arith

none_zero : (o : Option ℕ) → NoneBelow 0 o
none_zero None = tt
none_zero (Some i) = omega arith

none_step : (t : Bool) (limit k : ℕ) (xs : List ℕ) → (position_from is_last (k + 1) (take limit xs) ≡ None
    → NoneBelow limit (last_place xs)) → cond t (Some k) (position_from is_last (k + 1) (take limit xs)) ≡ None
    → NoneBelow (suc limit) (cond t (Some 0) (option_map suc (last_place xs)))
none_step true limit k xs ih h = cc
none_step false limit k xs ih h = none_shift limit (last_place xs) (ih h)

none_from : (limit : ℕ) (xs : List ℕ) (k : ℕ) → position_from is_last k (take limit xs) ≡ None → NoneBelow limit (last_place xs)
none_from zero xs k h = none_zero (last_place xs)
none_from (suc limit) [] k h = tt
none_from (suc limit) (x ∷ xs) k h = none_step (nat_lt x 128) limit k xs (none_from limit xs (k + 1)) h

-- what the search for the last byte says of it
pub place_found : (limit : ℕ) (xs : List ℕ) (i : ℕ) → position is_last (take limit xs) ≡ Some i → (last_place xs ≡ Some i) × (i < limit)
    × (i < length xs)
place_found limit xs i h =
    let f : FoundFrom limit xs 0 i = found_from limit xs 0 i (sym (position_from-zero is_last (take limit xs)) ∙ h) in
    let z : i ≡ f.place = f.counted ∙ zero-add f.place in
    (f.last ∙ ap Some (sym z), rw z f.allowed, rw z f.there)

no_place : (kind : NumberKind) (xs : List ℕ) (o : Option ℕ) → last_place xs ≡ o → NoneBelow (most_bytes kind) o
    → ends_at kind xs o ≡ cond (nat_lt (length xs) (most_bytes kind)) short (bad (NumberTooLong kind) (most_bytes kind - 1))
no_place kind xs None e n = refl
no_place kind xs (Some i) e n =
    let l : i < length xs = last_place-lt xs i e in
    let a : nat_lt (suc i) (most_bytes kind) ≡ false = le-ltb (suc i) (most_bytes kind) (omega arith) in
    let b : nat_lt (most_bytes kind) (suc i) ≡ true = lt-ltb (most_bytes kind) (suc i) (omega arith) in
    let c : nat_lt (length xs) (most_bytes kind) ≡ false = le-ltb (length xs) (most_bytes kind) (omega arith) in
    rw (a, b, c) refl

-- what a search that found nothing says of the number
pub nothing_found : (kind : NumberKind) (xs : List ℕ) → position is_last (take (most_bytes kind) xs) ≡ None
    → number kind xs ≡ cond (nat_lt (length xs) (most_bytes kind)) short (bad (NumberTooLong kind) (most_bytes kind - 1))
unfolding number
nothing_found kind xs h = no_place kind xs (last_place xs) refl
    (none_from (most_bytes kind) xs 0 (sym (position_from-zero is_last (take (most_bytes kind) xs)) ∙ h))

-- what the last byte says of the number: it is read, or the last byte that may be taken has a wrong bit
pub last_found : (kind : NumberKind) (xs : List ℕ) (i : ℕ) → last_place xs ≡ Some i → i < most_bytes kind → (i + 1 < most_bytes kind)
    ⊎ (is_unused_right kind (slice_index xs i) ≡ true)
    → number kind xs ≡ read (septets (take (i + 1) xs)) (i + 1)
unfolding number
last_found kind xs i e l (inl h) =
    let a : nat_lt (suc i) (most_bytes kind) ≡ true = lt-ltb (suc i) (most_bytes kind) (omega arith) in
    rw e (rw a (rw add-one refl))
last_found kind xs i e l (inr h) =
    let b : nat_lt (most_bytes kind) (suc i) ≡ false = le-ltb (most_bytes kind) (suc i) (omega arith) in
    rw e (by_more (nat_lt (suc i) (most_bytes kind)) b)
  where
    by_more : (t : Bool) → nat_lt (most_bytes kind) (suc i) ≡ false
        → cond t (read (septets (take (suc i) xs)) (suc i)) (cond (nat_lt (most_bytes kind) (suc i))
        (bad (NumberTooLong kind) (most_bytes kind - 1)) (cond (is_unused_right kind (slice_index xs i))
        (read (septets (take (suc i) xs)) (suc i)) (bad (NumberTooLarge kind) i))) ≡ read (septets (take (i + 1) xs)) (i + 1)
    by_more true b = rw add-one refl
    by_more false b = rw b (rw h (rw add-one refl))

pub last_wrong : (kind : NumberKind) (xs : List ℕ) (i : ℕ) → last_place xs ≡ Some i → i + 1 ≡ most_bytes kind
    → is_unused_right kind (slice_index xs i) ≡ false → number kind xs ≡ bad (NumberTooLarge kind) i
unfolding number
last_wrong kind xs i e l h =
    let a : nat_lt (suc i) (most_bytes kind) ≡ false = le-ltb (suc i) (most_bytes kind) (omega arith) in
    let b : nat_lt (most_bytes kind) (suc i) ≡ false = le-ltb (most_bytes kind) (suc i) (omega arith) in
    rw e (rw a (rw b (rw h refl)))

-- the septets up to a byte, against the weight of its own
septets_below : (i : ℕ) (xs : List ℕ) → i < length xs → septets (take (suc i) xs) < 128 ^ i * (slice_index xs i % 128 + 1)
septets_below i [] h = absurd (omega arith)
septets_below zero (x ∷ xs) h = omega arith
septets_below (suc i) (x ∷ xs) h =
    let ih : septets (take (suc i) xs) < 128 ^ i * (slice_index xs i % 128 + 1) = septets_below i xs (omega arith) in
    let w : 128 ^ suc i * (slice_index xs i % 128 + 1) ≡ 128 * (128 ^ i * (slice_index xs i % 128 + 1)) =
    rw pow-succ' (mul_assoc 128 (128 ^ i) (slice_index xs i % 128 + 1)) in
    rw w (omega (arith, ih))

product_le : (a b m n : ℕ) → a ≤ b → m ≤ n → a * m ≤ b * n
product_le a b m n p q = le_trans (mul-le-mul_right m p) (mul-le-mul_left b q)

-- the septets of at most n bytes, of which the last, if it is the nth, is at most m
bound_at : (xs : List ℕ) (i n m : ℕ) → i < length xs → i < suc n → (i < n) ⊎ (slice_index xs i % 128 + 1 ≤ m) → 128 ^ n ≤ 128 ^ n * m
    → septets (take (suc i) xs) < 128 ^ n * m
bound_at xs i n m h l (inl k) w =
    let g : septets (take (suc i) xs) < 128 ^ i * (slice_index xs i % 128 + 1) = septets_below i xs h in
    let p : 128 ^ i * (slice_index xs i % 128 + 1) ≤ 128 ^ i * 128 = mul-le-mul_left (128 ^ i) (omega arith) in
    let q : 128 ^ suc i ≤ 128 ^ n = pow-le-pow_right {n = 128} (omega arith) {i = suc i} {j = n} (omega arith) in
    let z : 128 ^ suc i ≡ 128 * 128 ^ i = pow-succ' 128 i in
    omega (arith, g, p, q, z, w)
bound_at xs i n m h l (inr k) w =
    let g : septets (take (suc i) xs) < 128 ^ i * (slice_index xs i % 128 + 1) = septets_below i xs h in
    let q : 128 ^ i ≤ 128 ^ n = pow-le-pow_right {n = 128} (omega arith) {i = i} {j = n} (omega arith) in
    let p : 128 ^ i * (slice_index xs i % 128 + 1) ≤ 128 ^ n * m = product_le (128 ^ i) (128 ^ n) (slice_index xs i % 128 + 1) m q k in
    omega (arith, g, p)

-- the sum of a number that is read is as large as its kind allows
pub sum_below : (kind : NumberKind) (xs : List ℕ) (i : ℕ) → i < length xs → i < most_bytes kind → (i + 1 < most_bytes kind)
    ⊎ (is_unused_right kind (slice_index xs i) ≡ true)
    → septets (take (i + 1) xs) < sum_bound kind
sum_below VarU32 xs i h l (inl k) = rw add-one (bound_at xs i 4 16 h l (inl (omega arith)) (lit≤ tt))
sum_below VarU32 xs i h l (inr k) = rw add-one (bound_at xs i 4 16 h l (inr (omega (arith, ltb-true (slice_index xs i) 16 k))) (lit≤ tt))
sum_below VarU64 xs i h l (inl k) = rw add-one (bound_at xs i 9 2 h l (inl (omega arith)) (lit≤ tt))
sum_below VarU64 xs i h l (inr k) = rw add-one (bound_at xs i 9 2 h l (inr (omega (arith, ltb-true (slice_index xs i) 2 k))) (lit≤ tt))
sum_below VarI32 xs i h l k = rw add-one (bound_at xs i 4 128 h l (inr (omega arith)) (lit≤ tt))
sum_below VarS33 xs i h l k = rw add-one (bound_at xs i 4 128 h l (inr (omega arith)) (lit≤ tt))
sum_below VarI64 xs i h l k = rw add-one (bound_at xs i 9 128 h l (inr (omega arith)) (lit≤ tt))

-- The four outcomes, as the code finds them.

pub is_short : (kind : NumberKind) (xs : List ℕ) (limit : ℕ) → limit ≡ most_bytes kind → None ≡ position is_last (take limit xs)
    → length xs < limit → short ≡ number kind xs
is_short kind xs limit is none l =
    let e : position is_last (take (most_bytes kind) xs) ≡ None = sym (rw is at none) in
    let t : nat_lt (length xs) (most_bytes kind) ≡ true = lt-ltb _ _ (omega (arith, is, l)) in
    sym (nothing_found kind xs e ∙ (rw t refl))

pub is_too_long : (kind : NumberKind) (xs : List ℕ) (limit : ℕ) → limit ≡ most_bytes kind → None ≡ position is_last (take limit xs)
    → limit ≤ length xs → bad (NumberTooLong kind) (limit - 1) ≡ number kind xs
is_too_long kind xs limit is none l =
    let e : position is_last (take (most_bytes kind) xs) ≡ None = sym (rw is at none) in
    let t : nat_lt (length xs) (most_bytes kind) ≡ false = le-ltb _ _ (omega (arith, is, l)) in
    sym (nothing_found kind xs e ∙ (rw (t, is) refl))

pub is_too_large : (kind : NumberKind) (xs : List ℕ) (limit i : ℕ) → limit ≡ most_bytes kind → Some i ≡ position is_last (take limit xs)
    → i + 1 ≡ limit → false ≡ is_unused_right kind (slice_index xs i) → bad (NumberTooLarge kind) i ≡ number kind xs
is_too_large kind xs limit i is found l w =
    let f = place_found limit xs i (sym found) in
    sym (last_wrong kind xs i f.0 (l ∙ is) (sym w))

-- a number that is read, with its bounds
pub record IsRead (kind : NumberKind) (xs : List ℕ) (i : ℕ) : Type 0 where
  pub value : read (septets (take (i + 1) xs)) (i + 1) ≡ number kind xs
  pub there : i < length xs
  pub below : septets (take (i + 1) xs) < sum_bound kind

pub is_read : (kind : NumberKind) (xs : List ℕ) (limit i : ℕ) → limit ≡ most_bytes kind → Some i ≡ position is_last (take limit xs)
    → (i + 1 ≢ limit) ⊎ (true ≡ is_unused_right kind (slice_index xs i)) → IsRead kind xs i
is_read kind xs limit i is found w =
    let f = place_found limit xs i (sym found) in
    let l : i < most_bytes kind = omega (arith, is, f.1) in
    let u : (i + 1 < most_bytes kind) ⊎ (is_unused_right kind (slice_index xs i) ≡ true) =
    elim w [ inl n ↦ inl (omega (arith, is, n, l)) | inr e ↦ inr (sym e) ] in
    record { value = sym (last_found kind xs i f.0 l u); there = f.2; below = sum_below kind xs i f.2 l u }

-- Numbers of one byte and of two.

five_at_least : (kind : NumberKind) → 5 ≤ most_bytes kind
five_at_least VarU32 = omega arith
five_at_least VarI32 = omega arith
five_at_least VarS33 = omega arith
five_at_least VarU64 = omega arith
five_at_least VarI64 = omega arith

pub one_byte : (kind : NumberKind) (xs : List ℕ) → 1 ≤ length xs → slice_index xs 0 < 128 → read (slice_index xs 0) 1 ≡ number kind xs
one_byte kind [] l h = absurd (omega arith)
one_byte kind (b ∷ bs) l h =
    let t : nat_lt b 128 ≡ true = lt-ltb b 128 h in
    let e : last_place (b ∷ bs) ≡ Some 0 = rw t refl in
    let g : b ≡ b % 128 + 128 * 0 = omega (arith, h) in
    ap (λ n. read n 1) g ∙ sym (last_found kind (b ∷ bs) 0 e (omega (arith, five_at_least kind)) (inl (omega (arith, five_at_least kind))))

pub two_bytes : (kind : NumberKind) (xs : List ℕ) → 2 ≤ length xs → 128 ≤ slice_index xs 0 → slice_index xs 0 < 256 → slice_index xs 1 < 128
    → read (slice_index xs 0 - 128 + 128 * slice_index xs 1) 2 ≡ number kind xs
two_bytes kind [] l m n h = absurd (omega arith)
two_bytes kind (a ∷ []) l m n h = absurd (omega arith)
two_bytes kind (a ∷ b ∷ bs) l m n h =
    let t : nat_lt a 128 ≡ false = le-ltb a 128 m in
    let u : nat_lt b 128 ≡ true = lt-ltb b 128 h in
    let e : last_place (a ∷ b ∷ bs) ≡ Some 1 = rw (t, u) refl in
    let g : a - 128 + 128 * b ≡ a % 128 + 128 * (b % 128 + 128 * 0) = omega (arith, m, n, h) in
    ap (λ n. read n 2) g ∙ sym (last_found kind (a ∷ b ∷ bs) 1 e (omega (arith, five_at_least kind))
    (inl (omega (arith, five_at_least kind))))
