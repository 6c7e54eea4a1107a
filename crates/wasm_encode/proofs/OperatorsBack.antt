-- The bytes of constant operators are read as the operators.
use Rattle.std.proofs.Common.{◌≡◌, ℕ, ◌+◌, ◌*◌, ◌<◌, ◌^◌, ◌==◌, Bool, true}
use Rattle.std.proofs.Common.{false, List, ◌∷◌, ◌++◌, length, take, drop, Option, Some, Ok}
use Rattle.std.proofs.Common.{arith, ap, refl, subst, append_assoc, length-append}
use Rattle.std.specs.Int.{to_le_bytes, w32, w64}
use Rattle.wasm_base.specs.Float.{bits_of_32, bits_of_64, u64_at}
use Rattle.wasm_base.specs.Item.{ReadsAs}
use Rattle.wasm_base.specs.Name.{bytes_at, of_four, u32_at}
use Rattle.wasm_base.specs.Outcome.{Outcome}
use Rattle.wasm_base.specs.declared.fault.NumberKind.TheVariants.{VarU32, VarI32, VarI64}
use Rattle.wasm_encode.specs.Numbers.{unsigned_bytes}
use Rattle.wasm_encode.specs.Operators.{OperatorFits, after_opcode_bytes, opcode, operator_bytes, operator_read_at}
use Rattle.wasm_encode.specs.ReadsBack.{spot, Encodes}
use Rattle.wasm_encode.proofs.CopiedExpressions.{bytes_back}
use Rattle.wasm_encode.proofs.NumbersBack.{signed_at_spot, unsigned_at_spot, small_back}
use Rattle.wasm_encode.proofs.Readings.{same_spot}
use Rattle.wasm_encode.proofs.TypesBack.{heap_at_spot}
use Rattle.wasm_items.specs.Init.{Operands, after_opcode, aggregate_operands_of, done, index, numbered_operands_at, vector_operands_of}
use Rattle.wasm_items.specs.Instructions.{instruction_at, is_end}
use Rattle.wasm_items.specs.Windows.{bytes_of_vector}
use Rattle.wasm_items.specs.declared.init.ConstOperator.{ConstOperator}
use Rattle.wasm_items.specs.declared.init.ConstOperator.TheVariants as Operators
use Rattle.wasm_items.specs.declared.init.V128.{V128}

-- ---- floats

four_bits : (n : ℕ) → n < 2 ^ 32 → of_four (to_le_bytes w32 n) ≡ n
four_bits n h = omega arith

eight_bits : (n : ℕ) → n < 2 ^ 64 → of_four (take 4 (to_le_bytes w64 n)) + 2 ^ 32 * of_four (drop 4 (to_le_bytes w64 n)) ≡ n
eight_bits n h = omega arith

pub float_32 : (n features offset : ℕ) (later : List ℕ) → n < 2 ^ 32
    → u32_at (spot features offset (to_le_bytes w32 n ++ later)) ≡ Ok (n, spot features (offset + 4) later)
unfolding u32_at
float_32 n features offset later h = rw (bytes_back features offset (to_le_bytes w32 n) later) (
    ap (λ (m : ℕ). Ok (m, spot features (offset + 4) later)) (four_bits n h))

pub float_64 : (n features offset : ℕ) (later : List ℕ) → n < 2 ^ 64
    → u64_at (spot features offset (to_le_bytes w64 n ++ later)) ≡ Ok (n, spot features (offset + 8) later)
unfolding u64_at
float_64 n features offset later h = rw (bytes_back features offset (to_le_bytes w64 n) later) (
    ap (λ (m : ℕ). Ok (m, spot features (offset + 8) later)) (eight_bits n h))

-- ---- operators with a number after their opcode

-- one that has an index
indexed : (table : ℕ → Option Operands) (operator : ℕ → ConstOperator) (start number n features offset : ℕ) (later : List ℕ)
    → table number ≡ Some (index operator) → number < 128 → n < 2 ^ 32
    → numbered_operands_at start table (spot features offset ((number ∷ unsigned_bytes n) ++ later))
    ≡ Ok (operator n, spot features (offset + length (number ∷ unsigned_bytes n)) later)
indexed table operator start number n features offset later is small h =
    let bytes : List ℕ = unsigned_bytes n in
    let e : offset + 1 + length bytes ≡ offset + length (number ∷ bytes) = omega arith in
    rw (
      small_back number features offset (bytes ++ later) small,
      is,
      unsigned_at_spot VarU32 features (offset + 1) n later refl h,
    )
    (same_spot features (offset + 1 + length bytes) (offset + length (number ∷ bytes)) (operator n) later e)

-- one that has no operand
alone : (table : ℕ → Option Operands) (operator : ConstOperator) (start number features offset : ℕ) (later : List ℕ)
    → table number ≡ Some (done operator) → number < 128
    → numbered_operands_at start table (spot features offset (number ∷ later)) ≡ Ok (operator, spot features (offset + 1) later)
alone table operator start number features offset later is small = rw (small_back number features offset later small, is) refl

fixed : (start n size features offset : ℕ) (later : List ℕ) → n < 2 ^ 32 → size < 2 ^ 32
    → numbered_operands_at start aggregate_operands_of (spot features offset ((8 ∷ (unsigned_bytes n ++ unsigned_bytes size)) ++ later))
    ≡ Ok (Operators.ArrayNewFixed n size, spot features (offset + length (8 ∷ (unsigned_bytes n ++ unsigned_bytes size))) later)
fixed start n size features offset later h s =
    let one : List ℕ = unsigned_bytes n in
    let two : List ℕ = unsigned_bytes size in
    let e : offset + 1 + length one + length two ≡ offset + length (8 ∷ (one ++ two)) = omega (arith, length-append one two) in
    rw (
      append_assoc one two later,
      small_back 8 features offset (one ++ (two ++ later)) (omega arith),
      unsigned_at_spot VarU32 features (offset + 1) n (two ++ later) refl h,
      unsigned_at_spot VarU32 features (offset + 1 + length one) size later refl s,
    )
    (same_spot features (offset + 1 + length one + length two) (offset + length (8 ∷ (one ++ two)))
    (Operators.ArrayNewFixed n size) later e)

vector : (start features offset : ℕ) (v : V128) (later : List ℕ) → length (bytes_of_vector v) ≡ 16
    → numbered_operands_at start vector_operands_of (spot features offset ((12 ∷ bytes_of_vector v) ++ later))
    ≡ Ok (Operators.V128Const v, spot features (offset + length (12 ∷ bytes_of_vector v)) later)
vector start features offset v later h =
    let bytes : List ℕ = bytes_of_vector v in
    let e : offset + 1 + length bytes ≡ offset + length (12 ∷ bytes) = omega arith in
    let r : bytes_at 16 (spot features (offset + 1) (bytes ++ later)) ≡ Ok (bytes, spot features (offset + 1 + length bytes) later) =
    subst (λ (n : ℕ).
    bytes_at n (spot features (offset + 1) (bytes ++ later)) ≡ Ok (bytes, spot features (offset + 1 + length bytes) later)) h
    (bytes_back features (offset + 1) bytes later) in
    rw (small_back 12 features offset (bytes ++ later) (omega arith), r)
    (same_spot features (offset + 1 + length bytes) (offset + length (12 ∷ bytes)) (Operators.V128Const v) later e)

-- ---- all of them but `end`

-- what comes after the opcode is read as the operator
abbrev pub IsBack : (operator : ConstOperator) → Type 0
IsBack operator = (start features offset : ℕ) (later : List ℕ)
    → after_opcode start (opcode operator) (spot features offset (after_opcode_bytes operator ++ later))
    ≡ Ok (operator, spot features (offset + length (after_opcode_bytes operator)) later)

no_operands : (operator : ConstOperator) (features offset : ℕ) (later : List ℕ)
    → (let o : Outcome ConstOperator = Ok (operator, spot features offset later) in o)
    ≡ Ok (operator, spot features (offset + 0) later)
no_operands operator features offset later = same_spot features offset (offset + 0) operator later (omega arith)

pub after_back : (operator : ConstOperator) → OperatorFits operator → is_end operator ≡ false → IsBack operator
unfolding after_opcode
after_back Operators.End h inner = cc
after_back (Operators.GlobalGet n) h inner = λ start f o later. rw (unsigned_at_spot VarU32 f o n later refl h) refl
after_back (Operators.I32Const n) h inner = λ start f o later. rw (signed_at_spot VarI32 f o n later refl h) refl
after_back (Operators.I64Const n) h inner = λ start f o later. rw (signed_at_spot VarI64 f o n later refl h) refl
after_back (Operators.F32Const float) h inner = λ start f o later. rw (float_32 (bits_of_32 float) f o later h) refl
after_back (Operators.F64Const float) h inner = λ start f o later. rw (float_64 (bits_of_64 float) f o later h) refl
after_back (Operators.V128Const v) h inner = λ start f o later. vector start f o v later h
after_back Operators.I32Add h inner = λ start f o later. no_operands Operators.I32Add f o later
after_back Operators.I32Sub h inner = λ start f o later. no_operands Operators.I32Sub f o later
after_back Operators.I32Mul h inner = λ start f o later. no_operands Operators.I32Mul f o later
after_back Operators.I64Add h inner = λ start f o later. no_operands Operators.I64Add f o later
after_back Operators.I64Sub h inner = λ start f o later. no_operands Operators.I64Sub f o later
after_back Operators.I64Mul h inner = λ start f o later. no_operands Operators.I64Mul f o later
after_back (Operators.RefNull ty) h inner = λ start f o later. rw (heap_at_spot f o ty later h) refl
after_back (Operators.RefFunc n) h inner = λ start f o later. rw (unsigned_at_spot VarU32 f o n later refl h) refl
after_back (Operators.StructNew n) h inner = λ start f o later.
    indexed aggregate_operands_of (λ m. Operators.StructNew m) start 0 n f o later refl (omega arith) h
after_back (Operators.StructNewDefault n) h inner = λ start f o later.
    indexed aggregate_operands_of (λ m. Operators.StructNewDefault m) start 1 n f o later refl (omega arith) h
after_back (Operators.ArrayNew n) h inner = λ start f o later.
    indexed aggregate_operands_of (λ m. Operators.ArrayNew m) start 6 n f o later refl (omega arith) h
after_back (Operators.ArrayNewDefault n) h inner = λ start f o later.
    indexed aggregate_operands_of (λ m. Operators.ArrayNewDefault m) start 7 n f o later refl (omega arith) h
after_back (Operators.ArrayNewFixed n size) h inner = λ start f o later. fixed start n size f o later h.0 h.1
after_back Operators.AnyConvertExtern h inner = λ start f o later.
    alone aggregate_operands_of Operators.AnyConvertExtern start 26 f o later refl (omega arith)
after_back Operators.ExternConvertAny h inner = λ start f o later.
    alone aggregate_operands_of Operators.ExternConvertAny start 27 f o later refl (omega arith)
after_back Operators.RefI31 h inner = λ start f o later. alone aggregate_operands_of Operators.RefI31 start 28 f o later refl (omega arith)

-- No other operator begins as `end` does.
pub not_the_end : (operator : ConstOperator) → is_end operator ≡ false → (opcode operator == 0x0B) ≡ false
not_the_end Operators.End inner = cc
not_the_end (Operators.GlobalGet n) inner = refl
not_the_end (Operators.I32Const n) inner = refl
not_the_end (Operators.I64Const n) inner = refl
not_the_end (Operators.F32Const float) inner = refl
not_the_end (Operators.F64Const float) inner = refl
not_the_end (Operators.V128Const v) inner = refl
not_the_end Operators.I32Add inner = refl
not_the_end Operators.I32Sub inner = refl
not_the_end Operators.I32Mul inner = refl
not_the_end Operators.I64Add inner = refl
not_the_end Operators.I64Sub inner = refl
not_the_end Operators.I64Mul inner = refl
not_the_end (Operators.RefNull ty) inner = refl
not_the_end (Operators.RefFunc n) inner = refl
not_the_end (Operators.StructNew n) inner = refl
not_the_end (Operators.StructNewDefault n) inner = refl
not_the_end (Operators.ArrayNew n) inner = refl
not_the_end (Operators.ArrayNewDefault n) inner = refl
not_the_end (Operators.ArrayNewFixed n size) inner = refl
not_the_end Operators.AnyConvertExtern inner = refl
not_the_end Operators.ExternConvertAny inner = refl
not_the_end Operators.RefI31 inner = refl

-- an instruction by its opcode and what comes after it
pub inner_back : (operator : ConstOperator) (features offset : ℕ) (later : List ℕ) → OperatorFits operator → is_end operator ≡ false
    → instruction_at (spot features offset (operator_bytes operator ++ later))
    ≡ Ok (record { offset = offset; operator = operator }, spot features (offset + length (operator_bytes operator)) later)
unfolding instruction_at operator_bytes
inner_back operator features offset later h inner =
    let more : List ℕ = after_opcode_bytes operator in
    let e : offset + 1 + length more ≡ offset + length (opcode operator ∷ more) = omega arith in
    rw (not_the_end operator inner, after_back operator h inner offset features (offset + 1) later)
    (same_spot features (offset + 1 + length more) (offset + length (opcode operator ∷ more))
    (record { offset = offset; operator = operator }) later e)

pub end_back : (features offset : ℕ) (later : List ℕ) → instruction_at (spot features offset (0x0B ∷ later))
    ≡ Ok (record { offset = offset; operator = Operators.End }, spot features (offset + 1) later)
unfolding instruction_at
end_back features offset later = refl

read_back : (ends : Bool) (operator : ConstOperator) (features offset : ℕ) (later : List ℕ) → is_end operator ≡ ends → OperatorFits operator
    → operator_read_at (spot features offset (operator_bytes operator ++ later))
    ≡ Ok (operator, spot features (offset + length (operator_bytes operator)) later)
unfolding operator_bytes
read_back false operator features offset later is h = rw (inner_back operator features offset later h is) refl
read_back true Operators.End features offset later is h = rw (end_back features offset later) refl
read_back true other features offset later is h = cc

pub operator_encodes : (operator : ConstOperator) (features : ℕ) → OperatorFits operator
    → Encodes (ReadsAs (λ (x : ConstOperator). x) operator_read_at) features (λ (offset : ℕ). operator) (operator_bytes operator)
operator_encodes operator features h =
    record { read = λ offset later. read_back (is_end operator) operator features offset later refl h }
