-- Skipping a name consumes the same bytes as reading it.
use Rattle.std.proofs.Common.{◌≡◌, ℕ, ◌-◌, ◌≤◌, Bool, true, false, cond, List, length, take, Option, Some, None, Ok, Err, nat_lt, refl, sym}
use Rattle.std.proofs.Common.{ap, ◌∙◌, arith, le-ltb, ltb-false}
use Rattle.std.proofs.lemmas.List.{length-take-le}
use Rattle.std.specs.Str.{is_utf8}
use Rattle.wasm_base.proofs.Texts.{after_read, text_steps}
use Rattle.wasm_base.specs.FaultAt.{at_offset}
use Rattle.wasm_base.specs.Name.{is_above, name_limit, text_at}
use Rattle.wasm_base.specs.Number.{unsigned_at}
use Rattle.wasm_base.specs.Outcome.{Outcome, ◌>>=◌}
use Rattle.wasm_base.specs.Skip.{skipped_at, skipped_name_at}
use Rattle.wasm_base.specs.TextOf.{text_of}
use Rattle.wasm_base.specs.Window.{Place, advanced}
use Rattle.wasm_base.specs.declared.fault.Fault.TheVariants.{StringSize}
use Rattle.wasm_base.specs.declared.fault.NumberKind.TheVariants.{VarU32}

-- the value and the place of an outcome, or a default if it is a fault
abbrev pub value_or : {A : Type 0} → A × Place → Outcome A → A × Place
value_or other (Ok x) = x
value_or other (Err e) = other

-- a size, and then its bytes, which are skipped
abbrev after_skip : ℕ × Place → Outcome (Unit {0})
after_skip size = cond (is_above (Some name_limit) size.0) (Err (at_offset StringSize (size.1.offset - 1))) (skipped_at size.0 size.1)

module _ (text : List ℕ) (q : Place) where
  -- The bytes of a text that was read are there, and are skipped.
  bytes_taken : (b c : Bool) (n : ℕ) (p : Place) → nat_lt (length p.rest) n ≡ b → is_utf8 (take n p.rest) ≡ c → text_of n p ≡ Ok (text, q)
      → (take n p.rest ≡ text) × (skipped_at n p ≡ Ok (tt, q)) × (nat_lt (length p.rest) n ≡ false)
  unfolding text_of
  bytes_taken true c n p b_is c_is h = let z = rw b_is at h in absurd (cc)
  bytes_taken false false n p b_is c_is h = let z = rw (b_is, c_is) at h in absurd (cc)
  bytes_taken false true n p b_is c_is h =
      let z : Ok (take n p.rest, advanced n p) ≡ Ok (text, q) = rw (b_is, c_is) at h in
      let y : (take n p.rest, advanced n p) ≡ (text, q) = ap (value_or (text, q)) z in
      (ap (λ (o : List ℕ × Place). o.0) y, rw (b_is, ap (λ (o : List ℕ × Place). o.1) y) refl, b_is)

module _ (limit : Option ℕ) (text : List ℕ) (q : Place) where
  size_step : (b : Bool) (size : ℕ × Place) → is_above limit size.0 ≡ b → after_read limit size ≡ Ok (text, q)
      → (take size.0 size.1.rest ≡ text) × (skipped_at size.0 size.1 ≡ Ok (tt, q)) × (nat_lt (length size.1.rest) size.0 ≡ false)
  size_step true size e h = let z = rw e at h in absurd (cc)
  size_step false size e h = let z = rw e at h in bytes_taken text q (nat_lt (length size.1.rest) size.0)
      (is_utf8 (take size.0 size.1.rest)) size.0 size.1 refl refl z

  outcome_step : (o : Outcome ℕ) → ((size : ℕ × Place) → is_above limit size.0 ≡ false → take size.0 size.1.rest ≡ text
      → nat_lt (length size.1.rest) size.0 ≡ false → is_above (Some name_limit) size.0 ≡ false)
      → (o >>= after_read limit) ≡ Ok (text, q) → (o >>= after_skip) ≡ Ok (tt, q)
  outcome_step (Err e) within h = cc
  outcome_step (Ok size) within h =
      let t = size_step (is_above limit size.0) size refl h in
      let k : is_above limit size.0 ≡ false = not_above (is_above limit size.0) refl in
      rw (within size k t.0 t.2) t.1
    where
      not_above : (b : Bool) → is_above limit size.0 ≡ b → is_above limit size.0 ≡ false
      not_above false e = e
      not_above true e = let z = rw e at h in absurd (cc)

-- a name of at most 100,000 bytes
pub name_passed : (p q : Place) (text : List ℕ) → text_at (Some name_limit) p ≡ Ok (text, q) → skipped_name_at p ≡ Ok (tt, q)
unfolding skipped_name_at
name_passed p q text h = outcome_step (Some name_limit) text q (unsigned_at VarU32 p) (λ size k t there. k)
    (sym (text_steps (Some name_limit) p) ∙ h)

short_enough : (size : ℕ) (rest text : List ℕ) → length text ≤ name_limit → take size rest ≡ text → nat_lt (length rest) size ≡ false
    → nat_lt name_limit size ≡ false
short_enough size rest text le t there =
    let l : size ≤ length rest = ltb-false (length rest) size there in
    let n : length (take size rest) ≡ size = length-take-le size rest l in
    let m : length text ≡ size = rw t at n in
    le-ltb name_limit size (omega arith)

-- a text of at most 100,000 bytes
pub text_passed : (p q : Place) (text : List ℕ) → length text ≤ name_limit → text_at None p ≡ Ok (text, q) → skipped_name_at p ≡ Ok (tt, q)
unfolding skipped_name_at
text_passed p q text le h = outcome_step None text q (unsigned_at VarU32 p)
    (λ size k t there. short_enough size.0 size.1.rest text le t there) (sym (text_steps None p) ∙ h)
