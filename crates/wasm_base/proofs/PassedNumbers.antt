-- Numbers that are skipped, many at once.
use Rattle.std.proofs.Common.{◌≡◌, ℕ, zero, suc, ◌+◌, ◌-◌, ◌<◌, ◌≤◌, List, [], ◌∷◌, length, take, drop, Ok, Err, refl, sym, ap, subst}
use Rattle.std.proofs.Common.{arith}
use Rattle.std.specs.Prelude.{All}
use Rattle.std.proofs.lemmas.List.{take-take}
use Rattle.wasm_base.proofs.Numbers.{one_byte}
use Rattle.wasm_base.proofs.SmallBytes.{run_is_small}
use Rattle.wasm_base.specs.FaultAt.{FaultAt}
use Rattle.wasm_base.specs.Inner.{all_skipped_at}
use Rattle.wasm_base.specs.Number.{read, number, unsigned_at}
use Rattle.wasm_base.specs.Outcome.{Outcome, ◌>>=◌}
use Rattle.wasm_base.specs.Skip.{skipped_numbers_at}
use Rattle.wasm_base.specs.SmallBytes.{small_prefix}
use Rattle.wasm_base.specs.Window.{Place, advanced}
use Rattle.wasm_base.specs.declared.fault.NumberKind.TheVariants.{VarU32}

same_place : (p q : Place) → (let o : Outcome (Unit {0}) = Ok (tt, p) in o) ≡ Ok (tt, q) → p ≡ q
same_place p q e =
    let left : Unit {0} × Place = (tt, p) in
    let right : Unit {0} × Place = (tt, q) in
    let both : left ≡ right = cc in
    ap (λ z. z.1) both

-- items, and then more of them
items_after : (pass : Place → Outcome (Unit {0})) (n m k : ℕ) (p q : Place) → k ≡ m + n → all_skipped_at pass n p ≡ Ok (tt, q)
    → all_skipped_at pass k p ≡ all_skipped_at pass m q
items_after pass zero m k p q z e =
    let z : k ≡ m = omega arith in
    rw z (ap (all_skipped_at pass m) (same_place p q e))
items_after pass (suc n) m zero p q z e = absurd (omega arith)
items_after pass (suc n) m (suc k) p q z e =
    let y : k ≡ m + n = omega arith in
    go (pass p) (λ r. items_after pass n m k r q y) e
  where
    go : (o : Outcome (Unit {0})) → ((r : Place) → all_skipped_at pass n r ≡ Ok (tt, q) → all_skipped_at pass k r ≡ all_skipped_at pass m q)
        → (o >>= (λ x. all_skipped_at pass n x.1)) ≡ Ok (tt, q) → (o >>= (λ x. all_skipped_at pass k x.1)) ≡ all_skipped_at pass m q
    go (Ok x) after e = after x.1 e
    go (Err f) after e = cc

small_number : (b : ℕ) (bs : List ℕ) → b < 128 → number VarU32 (b ∷ bs) ≡ read b 1
small_number b bs l = sym (one_byte VarU32 (b ∷ bs) (omega arith) l)

-- n bytes below 128 are n numbers
small_numbers : (n f o : ℕ) (bytes : List ℕ) → n ≤ length bytes → All (λ b. b < 128) (take n bytes)
    → skipped_numbers_at n (record { features = f; offset = o; rest = bytes })
    ≡ Ok (tt, record { features = f; offset = o + n; rest = drop n bytes })
unfolding unsigned_at
small_numbers zero f o bytes l h =
    let e : o + 0 ≡ o = omega arith in
    rw e refl
small_numbers (suc n) f o [] l h = absurd (omega arith)
small_numbers (suc n) f o (b ∷ bs) l h =
    let small : b < 128 = h 0 0 (omega arith) in
    let ih = small_numbers n f (o + 1) bs (omega arith) (λ k d lt. h (suc k) d (omega arith)) in
    let e : o + 1 + n ≡ o + suc n = omega arith in
    rw (small_number b bs small) (subst (λ (j : ℕ). skipped_numbers_at n (record { features = f; offset = o + 1; rest = bs })
    ≡ Ok (tt, record { features = f; offset = j; rest = drop n bs })) e ih)

-- The steps of a loop that skips numbers.

pub pass_small : (left n : ℕ) (rest : List ℕ) (p q : Place) → n ≤ left → rest ≡ p.rest → n ≤ length rest → All (λ b. b < 128) (take n rest)
    → q ≡ advanced n p → skipped_numbers_at (left - n) q ≡ skipped_numbers_at left p
pass_small left n rest p q k e l h z =
    let whole : left ≡ left - n + n = omega arith in
    let passed : skipped_numbers_at n p ≡ Ok (tt, q) = rw z (small_numbers n p.features p.offset p.rest (rw e at l) (rw e at h)) in
    sym (items_after _ n (left - n) left p q whole passed)

pub skip_run : (left n : ℕ) (rest : List ℕ) (p q : Place) → 32 ≤ left → rest ≡ p.rest → 32 ≤ length rest → n ≤ 32 → n
    ≡ small_prefix (take 32 rest) → q ≡ advanced n p → skipped_numbers_at (left - n) q ≡ skipped_numbers_at left p
skip_run left n rest p q k e l few is z =
    let small : All (λ b. b < 128) (take n (take 32 rest)) = rw is (run_is_small (take 32 rest)).0 in
    pass_small left n rest p q (omega arith) e (omega arith) (rw (take-take n 32 rest few) at small) z

pub skip_one : (left v : ℕ) (p q : Place) → 0 < left → unsigned_at VarU32 p ≡ Ok (v, q) → skipped_numbers_at (left - 1) q
    ≡ skipped_numbers_at left p
skip_one zero v p q l e = absurd (omega arith)
skip_one (suc left) v p q l e =
    let z : suc left - 1 ≡ left = omega arith in
    rw (e, z) refl

pub skip_none : (left : ℕ) (p : Place) (f : FaultAt) → 0 < left → unsigned_at VarU32 p ≡ Err f → skipped_numbers_at left p ≡ Err f
skip_none zero p f l e = absurd (omega arith)
skip_none (suc left) p f l e = rw e refl

pub ruleset passing = (skip_one, skip_none)
