-- Instructions one after the other, as a loop skips them.
use Rattle.std.proofs.Common.{◌≡◌, ℕ, zero, suc, ◌+◌, ◌≤◌, false, List, [], ◌∷◌, length, drop, Ok, refl, arith, length-drop, ap, nat_eq}
use Rattle.wasm_base.specs.Name.{byte_at, first_of}
use Rattle.wasm_base.specs.Outcome.{Outcome}
use Rattle.wasm_base.specs.Window.{Window, Place, place, advanced, KeepsWindow}
use Rattle.wasm_items.specs.Init.{after_opcode, instructions_at}
use Rattle.wasm_items.specs.declared.init.ConstOperator.{ConstOperator}

first_passed : (p : Place) (rest : List ℕ) (b : ℕ) (q : Place) → p.rest ≡ rest → first_of p rest ≡ Ok (b, q) → length q.rest + 1
    ≡ length p.rest
first_passed p [] b q r e = cc
first_passed p (x ∷ rest) b q r e =
    let here : ℕ × Place = (x, advanced 1 p) in
    let there : ℕ × Place = (b, q) in
    let z : here ≡ there = cc in
    let k : length (drop 1 p.rest) ≡ length q.rest = ap (λ (w : ℕ × Place). length w.1.rest) z in
    let l : length p.rest ≡ length (x ∷ rest) = ap length r in
    omega (arith, k, l, length-drop 1 p.rest)

-- after reading a byte, one byte less remains
pub byte_passed : (p : Place) (b : ℕ) (q : Place) → byte_at p ≡ Ok (b, q) → length q.rest + 1 ≡ length p.rest
byte_passed p b q e = first_passed p p.rest b q refl e

-- A reader that advances has no more bytes remaining than before.
pub fewer_remaining : (old new : Window) → KeepsWindow old new → length (place new).rest ≤ length (place old).rest
fewer_remaining old new kept =
    omega (arith, kept.forward, ap length kept.bytes, length-drop new.position new.bytes, length-drop old.position old.bytes)

-- the outcome of the remaining instructions, at most `most` of them
pub record Left (p : Place) (whole : Outcome (Unit {0})) : Type 0 where
  pub most : ℕ
  pub fewer : length p.rest ≤ most
  pub so_far : instructions_at most p ≡ whole

pub next_instruction : (most : ℕ) (p : Place) (whole : Outcome (Unit {0})) (opcode : ℕ) (after next : Place) → length p.rest ≤ most
    → instructions_at most p ≡ whole
    → byte_at p ≡ Ok (opcode, after) → nat_eq opcode 0x0B ≡ false → (operator : ConstOperator)
    → after_opcode p.offset opcode after ≡ Ok (operator, next)
    → length next.rest ≤ length after.rest → Left next whole
next_instruction zero p whole opcode after next le e byte other operator operands fewer =
    absurd (omega (arith, byte_passed p opcode after byte))
next_instruction (suc most) p whole opcode after next le e byte other operator operands fewer = record {
  most = most;
  fewer = omega (arith, byte_passed p opcode after byte);
  so_far = rw (byte, other, operands) at e;
}
