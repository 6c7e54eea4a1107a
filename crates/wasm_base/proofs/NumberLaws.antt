-- Laws of numbers: a number that is whole or wrong stays so, whatever follows.
use Rattle.std.proofs.Common.{◌≡◌, ◌≢◌, ℕ, suc, ◌-◌, ◌<◌, ◌≤◌, Bool, true, false, cond, List, [], ◌∷◌, ◌++◌, length, take, replicate}
use Rattle.std.proofs.Common.{slice_index, Option, Some, None, option_map, nat_lt, refl, subst, ◌⊎◌, inl, inr, arith, length-append}
use Rattle.std.proofs.Common.{ltb-true, ltb-false, lt-ltb, le-ltb}
use Rattle.std.proofs.lemmas.List.{take-append-le, take-take, get_or_append_left, get_or-take}
use Rattle.wasm_base.specs.Number.{read, bad, short, number, ends_at, last_place, septets, most_bytes, is_unused_right}
use Rattle.wasm_base.specs.declared.fault.Fault.{Fault}
use Rattle.wasm_base.specs.declared.fault.Fault.TheVariants.{NumberTooLong, NumberTooLarge}
use Rattle.wasm_base.specs.declared.fault.NumberKind.{NumberKind}
use Rattle.wasm_base.specs.declared.fault.NumberKind.TheVariants.{VarU32}

more_step : (t : Bool) (o p : Option ℕ) (i : ℕ) → ((j : ℕ) → o ≡ Some j → p ≡ Some j) → cond t (Some 0) (option_map suc o) ≡ Some i
    → cond t (Some 0) (option_map suc p) ≡ Some i
more_step true o p i h e = e
more_step false None p i h e = cc
more_step false (Some j) p i h e = rw (h j refl) e

-- the last byte stays it, whatever follows
pub last_place-more : (xs ys : List ℕ) (i : ℕ) → last_place xs ≡ Some i → last_place (xs ++ ys) ≡ Some i
last_place-more [] ys i e = cc
last_place-more (x ∷ xs) ys i e = more_step (nat_lt x 128) (last_place xs) (last_place (xs ++ ys)) i (λ j. last_place-more xs ys j) e

lt_step : (t : Bool) (o : Option ℕ) (i n : ℕ) → ((j : ℕ) → o ≡ Some j → j < n) → cond t (Some 0) (option_map suc o) ≡ Some i → i < suc n
lt_step true o i n h e = let z : 0 ≡ i = cc in omega arith
lt_step false None i n h e = cc
lt_step false (Some j) i n h e = let z : suc j ≡ i = cc in let l : j < n = h j refl in omega arith

-- the last byte is one of the bytes
pub last_place-lt : (xs : List ℕ) (i : ℕ) → last_place xs ≡ Some i → i < length xs
last_place-lt [] i e = cc
last_place-lt (x ∷ xs) i e = lt_step (nat_lt x 128) (last_place xs) i (length xs) (λ j. last_place-lt xs j) e

take_step : (t : Bool) (o : Option ℕ) (i : ℕ) (xs : List ℕ) → ((j : ℕ) → o ≡ Some j → last_place (take (suc j) xs) ≡ Some j)
    → cond t (Some 0) (option_map suc o) ≡ Some i → cond t (Some 0) (option_map suc (last_place (take i xs))) ≡ Some i
take_step true o i xs h e = e
take_step false None i xs h e = cc
take_step false (Some j) i xs h e = let z : suc j ≡ i = cc in rw (← z) (rw (h j refl) refl)

-- it is the last byte of what ends with it
pub last_place-take : (xs : List ℕ) (i : ℕ) → last_place xs ≡ Some i → last_place (take (suc i) xs) ≡ Some i
last_place-take [] i e = cc
last_place-take (x ∷ xs) i e = take_step (nat_lt x 128) (last_place xs) i xs (λ j. last_place-take xs j) e

context_step : (t : Bool) (o p : Option ℕ) (i n : ℕ) → (o ≡ None → (j : ℕ) → p ≡ Some j → n ≤ j) → cond t (Some 0) (option_map suc o) ≡ None
    → cond t (Some 0) (option_map suc p) ≡ Some i → suc n ≤ i
context_step true o p i n h e f = cc
context_step false (Some k) p i n h e f = cc
context_step false None None i n h e f = cc
context_step false None (Some j) i n h e f = let z : suc j ≡ i = cc in let l : n ≤ j = h refl j refl in omega arith

-- where no byte is a last one, a later one is
pub last_place-past : (xs ys : List ℕ) (i : ℕ) → last_place xs ≡ None → last_place (xs ++ ys) ≡ Some i → length xs ≤ i
last_place-past [] ys i e f = omega arith
last_place-past (x ∷ xs) ys i e f = context_step (nat_lt x 128) (last_place xs) (last_place (xs ++ ys)) i (length xs)
    (λ g j. last_place-past xs ys j g) e f

-- what ends within the first bytes doesn't depend on the rest
ends_at-more : (kind : NumberKind) (xs ys : List ℕ) (i : ℕ) → i < length xs → ends_at kind (xs ++ ys) (Some i) ≡ ends_at kind xs (Some i)
ends_at-more kind xs ys i h =
    let t : take (suc i) (xs ++ ys) ≡ take (suc i) xs = take-append-le (suc i) xs ys h in
    let g : slice_index (xs ++ ys) i ≡ slice_index xs i = get_or_append_left xs ys 0 i h in
    rw (t, g)

too_long : (kind : NumberKind) (xs ys : List ℕ) (o : Option ℕ) → most_bytes kind ≤ length xs → ((j : ℕ) → o ≡ Some j → length xs ≤ j)
    → ends_at kind (xs ++ ys) o ≡ bad (NumberTooLong kind) (most_bytes kind - 1)
too_long kind xs ys None h p =
    let l : most_bytes kind ≤ length (xs ++ ys) = omega (arith, length-append xs ys) in
    rw (le-ltb (length (xs ++ ys)) (most_bytes kind) l)
too_long kind xs ys (Some j) h p =
    let l : length xs ≤ j = p j refl in
    let a : most_bytes kind ≤ suc j = omega arith in
    let b : most_bytes kind < suc j = omega arith in
    rw (le-ltb (suc j) (most_bytes kind) a, lt-ltb (most_bytes kind) (suc j) b)

none_more : (kind : NumberKind) (xs ys : List ℕ) (t : Bool) → last_place xs ≡ None → nat_lt (length xs) (most_bytes kind) ≡ t
    → cond t short (bad (NumberTooLong kind) (most_bytes kind - 1)) ≢ short → ends_at kind (xs ++ ys) (last_place (xs ++ ys))
    ≡ cond t short (bad (NumberTooLong kind) (most_bytes kind - 1))
none_more kind xs ys true e f h = absurd (h refl)
none_more kind xs ys false e f h = too_long kind xs ys (last_place (xs ++ ys)) (ltb-false _ _ f) (λ j. last_place-past xs ys j e)

more_at : (kind : NumberKind) (xs ys : List ℕ) (o : Option ℕ) → last_place xs ≡ o → ends_at kind xs o ≢ short
    → ends_at kind (xs ++ ys) (last_place (xs ++ ys)) ≡ ends_at kind xs o
more_at kind xs ys None e h = none_more kind xs ys (nat_lt (length xs) (most_bytes kind)) e refl h
more_at kind xs ys (Some i) e h = rw (last_place-more xs ys i e) (ends_at-more kind xs ys i (last_place-lt xs i e))

-- a number that isn't short is the same, whatever follows
pub number-more : (kind : NumberKind) (xs ys : List ℕ) → number kind xs ≢ short → number kind (xs ++ ys) ≡ number kind xs
unfolding number
number-more kind xs ys h = more_at kind xs ys (last_place xs) refl h

-- what a number that was read says of its bytes
pub record Used (kind : NumberKind) (xs : List ℕ) (value used : ℕ) : Type 0 where
  pub some : 0 < used
  pub there : used ≤ length xs
  pub within : used ≤ most_bytes kind
  pub alone : number kind (take used xs) ≡ read value used

used_is : (a b c : Bool) (w i p q : ℕ) (f g : Fault) (v k : ℕ) → cond a (read w (suc i))
    (cond b (bad f p) (cond c (read w (suc i)) (bad g q))) ≡ read v k → (w ≡ v) × (suc i ≡ k) × ((a ≡ true) ⊎ (b ≡ false))
used_is true b c w i p q f g v k e = (cc, cc, inl refl)
used_is false true c w i p q f g v k e = cc
used_is false false true w i p q f g v k e = (cc, cc, inr refl)
used_is false false false w i p q f g v k e = cc

used_none : (t : Bool) (f : Fault) (p v k : ℕ) → cond t short (bad f p) ≡ read v k → ⊥
used_none true f p v k e = cc
used_none false f p v k e = cc

used_at : (kind : NumberKind) (xs : List ℕ) (o : Option ℕ) (v k : ℕ) → last_place xs ≡ o → ends_at kind xs o ≡ read v k → Used kind xs v k
unfolding number
used_at kind xs None v k e r = absurd (used_none (nat_lt (length xs) (most_bytes kind)) (NumberTooLong kind) (most_bytes kind - 1) v k r)
used_at kind xs (Some i) v k e r =
    let u : (septets (take (suc i) xs) ≡ v) × (suc i ≡ k) × ((nat_lt (suc i) (most_bytes kind) ≡ true)
    ⊎ (nat_lt (most_bytes kind) (suc i) ≡ false)) = used_is (nat_lt (suc i) (most_bytes kind)) (nat_lt (most_bytes kind) (suc i))
    (is_unused_right kind (slice_index xs i)) (septets (take (suc i) xs)) i (most_bytes kind - 1) i (NumberTooLong kind)
    (NumberTooLarge kind) v k r in
    let z : suc i ≡ k = u.1 in
    let l : i < length xs = last_place-lt xs i e in
    let t : take (suc i) (take (suc i) xs) ≡ take (suc i) xs = take-take (suc i) (suc i) xs (omega arith) in
    let s : slice_index (take (suc i) xs) i ≡ slice_index xs i = get_or-take (suc i) xs i 0 (omega arith) in
    let w : suc i ≤ most_bytes kind = elim u.2 [
      | inl a ↦ omega (arith, ltb-true (suc i) (most_bytes kind) a)
      | inr b ↦ omega
          (arith, ltb-false (most_bytes kind) (suc i) b)
    ] in
    let a : ends_at kind (take (suc i) xs) (last_place (take (suc i) xs)) ≡ read v k = rw (last_place-take xs i e) (rw (t, s) r) in
    record {
      some = omega arith;
      there = omega arith;
      within = omega arith;
      alone = subst (λ (m : ℕ). ends_at kind (take m xs) (last_place (take m xs)) ≡ read v k) z a;
    }

pub number-used : (kind : NumberKind) (xs : List ℕ) (v k : ℕ) → number kind xs ≡ read v k → Used kind xs v k
unfolding number
number-used kind xs v k r = used_at kind xs (last_place xs) v k refl r

short_test : (a b c : Bool) (w i p q : ℕ) (f g : Fault) → cond a (read w (suc i)) (cond b (bad f p) (cond c (read w (suc i)) (bad g q)))
    ≡ short → ⊥
short_test true b c w i p q f g e = cc
short_test false true c w i p q f g e = cc
short_test false false true w i p q f g e = cc
short_test false false false w i p q f g e = cc

none_of : (t : Bool) (f : Fault) (p : ℕ) → cond t short (bad f p) ≡ short → t ≡ true
none_of true f p e = refl
none_of false f p e = cc

short_at : (kind : NumberKind) (xs : List ℕ) (o : Option ℕ) → last_place xs ≡ o → ends_at kind xs o ≡ short → (last_place xs ≡ None)
    × (length xs < most_bytes kind)
short_at kind xs None e r = (e, ltb-true _ _ (none_of _ _ _ r))
short_at kind xs (Some i) e r = absurd (short_test (nat_lt (suc i) (most_bytes kind)) (nat_lt (most_bytes kind) (suc i))
    (is_unused_right kind (slice_index xs i)) (septets (take (suc i) xs)) i (most_bytes kind - 1) i (NumberTooLong kind)
    (NumberTooLarge kind) r)

-- a short number has no last byte, and fewer bytes than its kind may have
pub number-short : (kind : NumberKind) (xs : List ℕ) → number kind xs ≡ short → (last_place xs ≡ None) × (length xs < most_bytes kind)
unfolding number
number-short kind xs r = short_at kind xs (last_place xs) refl r

none_step : (t : Bool) (o p : Option ℕ) → (o ≡ None → p ≡ None) → cond t (Some 0) (option_map suc o) ≡ None
    → cond t (Some 0) (option_map suc p) ≡ None
none_step true o p h e = cc
none_step false (Some j) p h e = cc
none_step false None p h e = rw (h refl) refl

none_after : (xs ys : List ℕ) → last_place xs ≡ None → last_place ys ≡ None → last_place (xs ++ ys) ≡ None
none_after [] ys e f = f
none_after (x ∷ xs) ys e f = none_step (nat_lt x 128) (last_place xs) (last_place (xs ++ ys)) (λ g. none_after xs ys g f) e

-- a short number is too long, if five more bytes aren't its last
pub number-long : (xs : List ℕ) → number VarU32 xs ≡ short → number VarU32 (xs ++ replicate 5 0x80) ≡ bad (NumberTooLong VarU32) 4
unfolding number
number-long xs e =
    let s : (last_place xs ≡ None) × (length xs < most_bytes VarU32) = number-short VarU32 xs e in
    let n : last_place (xs ++ replicate 5 0x80) ≡ None = none_after xs (replicate 5 0x80) s.0 refl in
    let l : 5 ≤ length (xs ++ replicate 5 0x80) = omega (arith, length-append xs (replicate 5 0x80)) in
    rw n (rw (le-ltb (length (xs ++ replicate 5 0x80)) 5 l) refl)
