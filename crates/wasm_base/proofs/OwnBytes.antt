-- Readings that depend on no byte after those that they take.
use Rattle.std.proofs.Common.{length-drop, ◌≡◌, ℕ, zero, suc, ◌+◌, ◌-◌, ◌<◌, ◌≤◌, Bool, true, false, cond, List, [], ◌∷◌, ◌++◌, length}
use Rattle.std.proofs.Common.{Option, Some, None}
use Rattle.std.proofs.Common.{take, drop, nat_lt, Ok, Err, refl, sym, ap, subst, arith, ◌∙◌, ℤ, ltb-false, le-ltb}
use Rattle.std.proofs.Math.Seq.{take-add}
use Rattle.std.proofs.lemmas.List.{drop-take, take-take, length-take}
use Rattle.wasm_base.proofs.NumberLaws.{Used, number-used, number-more}
use Rattle.wasm_base.proofs.Texts.{advanced_twice}
use Rattle.wasm_base.specs.FaultAt.{FaultAt, at_offset}
use Rattle.wasm_base.specs.Inner.{after_reading}
use Rattle.wasm_base.specs.Leading.{leading_byte, lookup, or_leading, in_table}
use Rattle.wasm_base.specs.Name.{bytes_at, byte_at}
use Rattle.wasm_base.specs.Number.{Number, read, bad, short, number, in_window, unsigned_at}
use Rattle.wasm_base.specs.Outcome.{Outcome, ◌>>=◌}
use Rattle.wasm_base.specs.Signed.{signed_value, signed_at}
use Rattle.wasm_base.specs.Window.{Place, advanced}
use Rattle.wasm_base.specs.declared.fault.Fault.TheVariants.{UnexpectedEof}
use Rattle.wasm_base.specs.declared.fault.Lead.{Lead}
use Rattle.wasm_base.specs.declared.fault.NumberKind.{NumberKind}

-- the place in a window that ends after n more bytes
abbrev pub cut : ℕ → Place → Place
cut n p = record { features = p.features; offset = p.offset; rest = take n p.rest }

-- A reading consumed `used` bytes that were there, and would consume them in every window that ends after them.
pub record OwnAt {A : Type 0} (reading : Place → Outcome A) (p : Place) (x : A) (q : Place) : Type 0 where
  pub used : ℕ
  pub there : used ≤ length p.rest
  pub after : q ≡ advanced used p
  pub alone : (n m : ℕ) → n ≡ used + m → reading (cut n p) ≡ Ok (x, cut m q)

-- A reading depends on no byte after those that it consumes.
pub record Own {A : Type 0} (reading : Place → Outcome A) : Type 0 where
  pub at : (p : Place) (x : A) (q : Place) → reading p ≡ Ok (x, q) → OwnAt reading p x q

-- the value and the place of two equal outcomes
pub same_read : {A : Type 0} (x y : A) (p q : Place) → (let o : Outcome A = Ok (x, p) in o) ≡ Ok (y, q) → (x ≡ y) × (p ≡ q)
same_read {A} x y p q e =
    let one : A × Place = (x, p) in
    let other : A × Place = (y, q) in
    let z : one ≡ other = cc in
    (ap (λ (r : A × Place). r.0) z, ap (λ (r : A × Place). r.1) z)

cut_advanced : (u n m : ℕ) (p : Place) → n ≡ u + m → advanced u (cut n p) ≡ cut m (advanced u p)
cut_advanced u n m p e =
    let r : drop u (take n p.rest) ≡ take m (drop u p.rest) = subst (λ (k : ℕ). drop u (take k p.rest) ≡ take m (drop u p.rest)) (sym e)
    (drop-take u m p.rest) in
    λ i. record { features = p.features; offset = p.offset + u; rest = r i }

-- nothing is taken
pub own_nothing : {A : Type 0} (x : A) → Own (λ p. Ok (x, p))
own_nothing x = record {
  at = λ p y q e. let s = same_read x y p q e in record {
    used = 0;
    there = omega arith;
    after = sym s.1 ∙ nowhere p;
    alone = λ n m k. let z : n ≡ m = omega (arith, k) in rw (s.0, sym s.1, z) refl;
  };
}
  where
    nowhere : (p : Place) → p ≡ advanced 0 p
    nowhere p = let o : p.offset ≡ p.offset + 0 = omega arith in λ i. record { features = p.features; offset = o i; rest = p.rest }

-- a fault, which may depend on the place
pub own_refused : {A : Type 0} (fault : Place → FaultAt) → Own {A = A} (λ p. Err (fault p))
own_refused fault = record { at = λ p x q e. absurd (let z = e in cc) }

pub own_fault : {A : Type 0} (fault : FaultAt) → Own {A = A} (λ p. Err fault)
own_fault fault = own_refused (λ p. fault)

-- one reading and then another
pub own_both : {A B : Type 0} (first : Place → Outcome A) (next : A → Place → Outcome B) → Own first → ((a : A) → Own (next a))
    → Own (λ p. first p >>= λ r. next r.0 r.1)
own_both {A} {B} first next one two = record { at = λ p x q e. by p x q (first p) refl e }
  where
    by : (p : Place) (x : B) (q : Place) (o : Outcome A) → first p ≡ o → (o >>= λ r. next r.0 r.1) ≡ Ok (x, q)
        → OwnAt (λ p. first p >>= λ r. next r.0 r.1) p x q
    by p x q (Err f) is e = cc
    by p x q (Ok r) is e =
        let f = one.at p r.0 r.1 is in
        let s = (two r.0).at r.1 x q e in
        let rest : length r.1.rest ≡ length (drop f.used p.rest) = ap (λ (w : Place). length w.rest) f.after in
        record {
          used = f.used + s.used;
          there = omega (arith, rest, f.there, s.there, length-drop f.used p.rest);
          after = s.after ∙ ap (advanced s.used) f.after ∙ advanced_twice f.used s.used p;
          alone = λ n m k. rw (f.alone n (s.used + m) (omega (arith, k))) (s.alone (s.used + m) m refl);
        }

pub own_cond : {A : Type 0} (b : Bool) (f g : Place → Outcome A) → Own f → Own g → Own (λ p. cond b (f p) (g p))
own_cond true f g one other = one
own_cond false f g one other = other

byte_own : (features offset : ℕ) (rest : List ℕ) (x : ℕ) (q : Place)
    → byte_at (record { features = features; offset = offset; rest = rest }) ≡ Ok (x, q)
    → OwnAt byte_at (record { features = features; offset = offset; rest = rest }) x q
byte_own features offset [] x q e = cc
byte_own features offset (b ∷ bs) x q e =
    let p : Place = record { features = features; offset = offset; rest = b ∷ bs } in
    let s = same_read b x (advanced 1 p) q e in
    record {
      used = 1;
      there = omega arith;
      after = sym s.1;
      alone = λ n m k. by n m k s.0 s.1;
    }
  where
    by : (n m : ℕ) → n ≡ 1 + m → b ≡ x → advanced 1 (record { features = features; offset = offset; rest = b ∷ bs }) ≡ q
        → byte_at (cut n (record { features = features; offset = offset; rest = b ∷ bs })) ≡ Ok (x, cut m q)
    by zero m k h i = absurd (omega (arith, k))
    by (suc n) m k h i = let z : n ≡ m = omega (arith, k) in rw (sym h, sym i, sym z) refl

pub own_byte : Own byte_at
own_byte = record { at = λ p x q e. byte_own p.features p.offset p.rest x q e }

own_or_leading : {A : Type 0} (lead : Lead) (byte : ℕ) (value : Option A) → Own (λ p. or_leading lead byte (p.offset - 1) value p)
own_or_leading lead byte (Some value) = own_nothing value
own_or_leading lead byte None = own_refused (λ p. leading_byte lead byte (p.offset - 1))

-- a byte that a table says something of
pub own_in_table : {A : Type 0} (lead : Lead) (table : List (ℕ × A)) → Own (in_table lead table)
unfolding in_table
own_in_table lead table = own_both byte_at (λ byte p. or_leading lead byte (p.offset - 1) (lookup table byte) p) own_byte
    (λ byte. own_or_leading lead byte (lookup table byte))

-- a number in the bytes up to a later place is the number
pub cut_number : (kind : NumberKind) (xs : List ℕ) (v k m : ℕ) → number kind xs ≡ read v k → k ≤ m → number kind (take m xs) ≡ read v k
cut_number kind xs v k m e le =
    let used : Used kind xs v k = number-used kind xs v k e in
    let parts : take (k + (m - k)) xs ≡ take k xs ++ take (m - k) (drop k xs) = take-add k (m - k) xs in
    let whole : number kind (take k xs ++ take (m - k) (drop k xs))
    ≡ number kind (take k xs) = number-more kind (take k xs) (take (m - k) (drop k xs))
    (λ n. let z : read v k ≡ short = sym used.alone ∙ n in cc) in
    let n : m ≡ k + (m - k) = omega arith in
    subst (λ (j : ℕ). number kind (take j xs) ≡ read v k) (sym n) (rw (parts, whole) used.alone)

-- A number takes a byte at least.
pub record OwnNumber (kind : NumberKind) (p : Place) (x : ℕ) (q : Place) : Type 0 where
  pub own : OwnAt (unsigned_at kind) p x q
  pub some : 0 < own.used

pub own_number_at : (kind : NumberKind) (p : Place) (x : ℕ) (q : Place) → unsigned_at kind p ≡ Ok (x, q) → OwnNumber kind p x q
unfolding unsigned_at
own_number_at kind p x q e = by (number kind p.rest) refl e
  where
    by : (n : Number) → number kind p.rest ≡ n → in_window p n ≡ Ok (x, q) → OwnNumber kind p x q
    by (bad f i) is e = cc
    by short is e = cc
    by (read v k) is e =
        let s = same_read v x (advanced k p) q e in
        let u = number-used kind p.rest v k is in
        record {
          own = record {
            used = k;
            there = u.there;
            after = sym s.1;
            alone = λ n m j. rw (cut_number kind p.rest v k n is (omega (arith, j)), cut_advanced k n m p j, sym s.0, sym s.1) refl;
          };
          some = u.some;
        }

pub own_number : (kind : NumberKind) → Own (unsigned_at kind)
own_number kind = record { at = λ p x q e. (own_number_at kind p x q e).own }

-- A signed number is what its septets are, by how far they go.
pub record OwnSigned (kind : NumberKind) (p : Place) (x : ℤ) (q : Place) : Type 0 where
  pub own : OwnAt (signed_at kind) p x q
  pub some : 0 < own.used

pub own_signed_at : (kind : NumberKind) (p : Place) (x : ℤ) (q : Place) → signed_at kind p ≡ Ok (x, q) → OwnSigned kind p x q
unfolding signed_at
own_signed_at kind p x q e = by (unsigned_at kind p) refl e
  where
    by : (o : Outcome ℕ) → unsigned_at kind p ≡ o → (o >>= λ sum.
        let z : Outcome ℤ = Ok (signed_value sum.0 (sum.1.offset - p.offset), sum.1) in z) ≡ Ok (x, q) → OwnSigned kind p x q
    by (Err f) is e = cc
    by (Ok r) is e =
        let n = own_number_at kind p r.0 r.1 is in
        let s = same_read (signed_value r.0 (r.1.offset - p.offset)) x r.1 q e in
        record {
          own = record {
            used = n.own.used;
            there = n.own.there;
            after = sym s.1 ∙ n.own.after;
            alone = λ i m j. rw (n.own.alone i m j, sym s.0, sym s.1) refl;
          };
          some = n.some;
        }

pub own_signed : (kind : NumberKind) → Own (signed_at kind)
own_signed kind = record { at = λ p x q e. (own_signed_at kind p x q e).own }

bytes_own : (count : ℕ) (p : Place) (t : Bool) (x : List ℕ) (q : Place) → nat_lt (length p.rest) count ≡ t
    → cond t (Err (at_offset UnexpectedEof p.offset)) (let o : Outcome (List ℕ) = Ok (take count p.rest, advanced count p) in o) ≡ Ok (x, q)
    → OwnAt (bytes_at count) p x q
bytes_own count p true x q is e = cc
bytes_own count p false x q is e =
    let s = same_read (take count p.rest) x (advanced count p) q e in
    let le : count ≤ length p.rest = ltb-false (length p.rest) count is in
    record {
      used = count;
      there = le;
      after = sym s.1;
      alone = λ n m j.
          let l : count ≤ length (take n p.rest) = omega (arith, length-take n p.rest, le, j) in
          rw (
            le-ltb (length (take n p.rest)) count l,
            take-take count n p.rest (omega (arith, j)),
            cut_advanced count n m p j,
            sym s.0,
            sym s.1,
          ) refl;
    }

pub own_bytes : (count : ℕ) → Own (bytes_at count)
own_bytes count = record { at = λ p x q e. bytes_own count p (nat_lt (length p.rest) count) x q refl e }

-- a reading whose value doesn't count
pub own_passed : {A : Type 0} (reading : Place → Outcome A) → Own reading → Own (after_reading reading)
own_passed reading own = own_both reading (λ a p. Ok (tt, p)) own (λ a. own_nothing tt)
