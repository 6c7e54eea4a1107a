-- Names and texts, step by step.
use Rattle.std.proofs.Common.{◌≡◌, ℕ, ◌+◌, ◌-◌, ◌<◌, Bool, true, false, cond, List, length, take, drop, Option, Ok, Err, nat_lt, refl, sym}
use Rattle.std.proofs.Common.{ap, ◌∙◌, arith, drop-drop}
use Rattle.std.specs.Str.{IsUtf8, is_utf8}
use Rattle.std.proofs.lemmas.Str.{IsUtf8-from_is_utf8, is_utf8-from_IsUtf8}
use Rattle.wasm_base.specs.FaultAt.{at_offset}
use Rattle.wasm_base.specs.Name.{named, refused, is_above, text_after, after_size, name, name_in_window, text_at}
use Rattle.wasm_base.specs.Number.{Number, read, bad, short, number, in_window, unsigned_at}
use Rattle.wasm_base.specs.Outcome.{Outcome, ◌>>=◌}
use Rattle.wasm_base.specs.TextOf.{text_of}
use Rattle.wasm_base.specs.Window.{Place, advanced}
use Rattle.wasm_base.specs.declared.fault.Fault.TheVariants.{StringSize, UnexpectedEof, MalformedUtf8}
use Rattle.wasm_base.specs.declared.fault.NumberKind.TheVariants.{VarU32}
use Rattle.wasm_base.proofs.NumberLaws.{number-used}

pub advances : (bytes : List ℕ) → IsUtf8 bytes → is_utf8 bytes ≡ true
advances bytes h = is_utf8-from_IsUtf8 bytes h

pub fails : (bytes : List ℕ) → (IsUtf8 bytes → ⊥) → is_utf8 bytes ≡ false
fails bytes wrong = go (is_utf8 bytes) (IsUtf8-from_is_utf8 bytes)
  where
    go : (b : Bool) → (b ≡ true → IsUtf8 bytes) → b ≡ false
    go true test = absurd (wrong (test refl))
    go false test = refl

pub ruleset text_test = (advances, fails)

-- a size, and then the text
abbrev pub after_read : Option ℕ → ℕ × Place → Outcome (List ℕ)
after_read limit size = cond (is_above limit size.0) (Err (at_offset StringSize (size.1.offset - 1))) (text_of size.0 size.1)

pub advanced_twice : (j k : ℕ) (p : Place) → advanced k (advanced j p) ≡ advanced (j + k) p
advanced_twice j k p =
    let o : p.offset + j + k ≡ p.offset + (j + k) = omega arith in
    let r : drop k (drop j p.rest) ≡ drop (j + k) p.rest = drop-drop k j p.rest in
    λ i. record { features = p.features; offset = o i; rest = r i }

text_same : (b c : Bool) (p : Place) (size used : ℕ) (text : List ℕ) → 0 < used
    → name_in_window p (cond b (refused UnexpectedEof used) (cond c (named text (used + size)) (refused MalformedUtf8 (used + size - 1))))
    ≡ cond b (Err (at_offset UnexpectedEof (p.offset + used))) (cond c (Ok (text, advanced size (advanced used p)))
    (Err (at_offset MalformedUtf8 (p.offset + used + size - 1))))
text_same true c p size used text h = refl
text_same false true p size used text h = ap (λ (q : Place). let x : Outcome (List ℕ) = Ok (text, q) in x)
    (sym (advanced_twice used size p))
text_same false false p size used text h =
    let o : p.offset + (used + size - 1) ≡ p.offset + used + size - 1 = omega arith in
    ap (λ (n : ℕ). let x : Outcome (List ℕ) = Err (at_offset MalformedUtf8 n) in x) o

text_of_steps : (b : Bool) (p : Place) (size : ℕ) (text : List ℕ)
    → cond {A = Outcome (List ℕ)} b (Err (at_offset UnexpectedEof p.offset))
    (cond (is_utf8 text) (Ok (text, advanced size p)) (Err (at_offset MalformedUtf8 (p.offset + size - 1))))
    ≡ (let x : Outcome (List ℕ) = cond b (Err (at_offset UnexpectedEof p.offset)) (Ok (text, advanced size p)) in
    x >>= (λ bytes. cond (is_utf8 bytes.0) (Ok bytes) (Err (at_offset MalformedUtf8 (bytes.1.offset - 1)))))
text_of_steps true p size text = refl
text_of_steps false p size text = refl

after_same : (a : Bool) (p : Place) (size used : ℕ) → 0 < used
    → name_in_window p (cond a (refused StringSize (used - 1)) (text_after p.rest size used))
    ≡ cond a (Err (at_offset StringSize (p.offset + used - 1))) (text_of size (advanced used p))
unfolding text_of
after_same true p size used h =
    let o : p.offset + (used - 1) ≡ p.offset + used - 1 = omega arith in
    ap (λ (n : ℕ). let x : Outcome (List ℕ) = Err (at_offset StringSize n) in x) o
after_same false p size used h =
    let rest = drop used p.rest in
    text_same (nat_lt (length rest) size) (is_utf8 (take size rest)) p size used (take size rest) h
    ∙ text_of_steps (nat_lt (length rest) size) (advanced used p) size (take size rest)

text_steps_at : (limit : Option ℕ) (p : Place) (n : Number) → number VarU32 p.rest ≡ n → name_in_window p (after_size limit p.rest n)
    ≡ (in_window p n >>= after_read limit)
text_steps_at limit p (read size used) e = after_same (is_above limit size) p size used (number-used VarU32 p.rest size used e).some
text_steps_at limit p (bad fault i) e = refl
text_steps_at limit p short e = refl

-- reading a text is reading its size and then its bytes
pub text_steps : (limit : Option ℕ) (p : Place) → text_at limit p ≡ (unsigned_at VarU32 p >>= after_read limit)
unfolding text_at name unsigned_at
text_steps limit p = text_steps_at limit p (number VarU32 p.rest) refl
