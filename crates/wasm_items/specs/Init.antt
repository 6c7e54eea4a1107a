-- Constant expressions. Core specification, Binary format, Instructions, Expressions, with the instructions of
-- Validation, Instructions, Constant Expressions.
use Rattle.std.specs.Prelude.{◌≡◌, ℕ, zero, suc, ◌==◌, List, [], ◌∷◌, length, Option, Some, None, Result, Ok, Err}
use Rattle.std.specs.Prelude.{ℤ, if◌then◌else◌}
use Rattle.wasm_base.specs.FaultAt.{at_offset, fault_at}
use Rattle.wasm_base.specs.Float.{u64_at}
use Rattle.wasm_base.specs.Leading.{lookup}
use Rattle.wasm_base.specs.Name.{bytes_at, byte_at, u32_at}
use Rattle.wasm_base.specs.Number.{unsigned_at}
use Rattle.wasm_base.specs.Signed.{signed_at}
use Rattle.wasm_base.specs.Outcome.{Outcome, ◌>>=◌}
use Rattle.wasm_base.specs.Window.{Window, Place, place, window_between}
use Rattle.wasm_base.specs.declared.error.Error.{Error}
use Rattle.wasm_base.specs.declared.fault.Fault.TheVariants.{UnexpectedEof, NotConstant}
use Rattle.wasm_base.specs.Float.{of_bits_32, of_bits_64}
use Rattle.wasm_base.specs.declared.float.Ieee32.{Ieee32}
use Rattle.wasm_base.specs.declared.float.Ieee64.{Ieee64}
use Rattle.wasm_base.specs.declared.fault.NumberKind.{NumberKind}
use Rattle.wasm_base.specs.declared.fault.NumberKind.TheVariants.{VarU32, VarI32, VarI64}
use Rattle.wasm_items.specs.Values.{heap_type_at}
use Rattle.wasm_items.specs.declared.init.ConstOperator.{ConstOperator}
use Rattle.wasm_items.specs.declared.init.ConstOperator.TheVariants.{GlobalGet, I32Const, I64Const, F32Const, F64Const}
use Rattle.wasm_items.specs.declared.init.ConstOperator.TheVariants.{V128Const, I32Add, I32Sub, I32Mul, I64Add, I64Sub}
use Rattle.wasm_items.specs.declared.init.ConstOperator.TheVariants.{I64Mul, RefNull, RefFunc, StructNew}
use Rattle.wasm_items.specs.declared.init.ConstOperator.TheVariants.{StructNewDefault, ArrayNew, ArrayNewDefault}
use Rattle.wasm_items.specs.declared.init.ConstOperator.TheVariants.{ArrayNewFixed, AnyConvertExtern, ExternConvertAny}
use Rattle.wasm_items.specs.declared.init.ConstOperator.TheVariants.{RefI31}
use Rattle.wasm_items.specs.declared.types.HeapType.{HeapType}

-- | what an instruction has after its opcode, and the operator that it then is; the constant instruction with each
--   opcode, and with each number after the two opcodes that have one [`operands_of`, `aggregate_operands_of`,
--   `vector_operands_of`] <Instructions; Validation, Constant Expressions>
-- The operands of an instruction after its opcode, in order, and the operator made of them.
pub data Operands : Type 0 where
  -- no more operands
  done : ConstOperator → Operands
  -- a signed number
  signed : NumberKind → (ℤ → Operands) → Operands
  -- a float
  float_32 : (Ieee32 → Operands) → Operands
  float_64 : (Ieee64 → Operands) → Operands
  -- raw bytes, by their number
  raw : ℕ → (List ℕ → Operands) → Operands
  -- an index, or another unsigned number of 32 bits
  u32_index : (ℕ → Operands) → Operands
  -- a heap type
  heap : (HeapType → Operands) → Operands

-- the operator with an index as its only operand
abbrev pub index : (ℕ → ConstOperator) → Operands
index operator = u32_index (λ n. done (operator n))

-- the operands of the constant instruction with each opcode of one byte
abbrev pub operands_of : (opcode : ℕ) → Option Operands
operands_of = lookup (
    (0x23, index (λ n. GlobalGet n)) ∷ (0x41, signed VarI32 (λ n. done (I32Const n)))
    ∷ (0x42, signed VarI64 (λ n. done (I64Const n))) ∷ (0x43, float_32 (λ float. done (F32Const float)))
    ∷ (0x44, float_64 (λ float. done (F64Const float)))
    ∷ (0x6A, done I32Add) ∷ (0x6B, done I32Sub) ∷ (0x6C, done I32Mul)
    ∷ (0x7C, done I64Add) ∷ (0x7D, done I64Sub) ∷ (0x7E, done I64Mul)
    ∷ (0xD0, heap (λ ty. done (RefNull ty))) ∷ (0xD2, index (λ n. RefFunc n)) ∷ [])

-- the operands of the constant instruction with opcode 0xFB and each number after it
abbrev pub aggregate_operands_of : ℕ → Option Operands
aggregate_operands_of = lookup (
    (0, index (λ n. StructNew n)) ∷ (1, index (λ n. StructNewDefault n)) ∷ (6, index (λ n. ArrayNew n))
    ∷ (7, index (λ n. ArrayNewDefault n)) ∷ (8, u32_index (λ n. index (λ size. ArrayNewFixed n size)))
    ∷ (26, done AnyConvertExtern) ∷ (27, done ExternConvertAny) ∷ (28, done RefI31) ∷ [])

-- the operands of the constant instruction with opcode 0xFD and each number after it
abbrev pub vector_operands_of : ℕ → Option Operands
vector_operands_of = lookup ((12, raw 16 (λ bytes. done (V128Const (record { 0 = bytes })))) ∷ [])

-- | the operator after operands, after an opcode, or the fault that it is not constant, at its opcode
--   [`after_opcode`] <Instructions>
-- the operator with these operands, read at a place
abbrev pub operands_at : Operands → Place → Outcome ConstOperator
operands_at (done operator) p = Ok (operator, p)
operands_at (signed kind more) p = do
  number ← signed_at kind p
  operands_at (more number.0) number.1
operands_at (float_32 more) p = do
  bits ← u32_at p
  operands_at (more (of_bits_32 bits.0)) bits.1
operands_at (float_64 more) p = do
  bits ← u64_at p
  operands_at (more (of_bits_64 bits.0)) bits.1
operands_at (raw n more) p = do
  bytes ← bytes_at n p
  operands_at (more bytes.0) bytes.1
operands_at (u32_index more) p = do
  number ← unsigned_at VarU32 p
  operands_at (more number.0) number.1
operands_at (heap more) p = do
  ty ← heap_type_at p
  operands_at (more ty.0) ty.1

-- the operator with the operands of an instruction, or the fault, at its start, that it isn't constant
abbrev pub constant_operands_at : (start : ℕ) → Option Operands → Place → Outcome ConstOperator
constant_operands_at start (Some operands) p = operands_at operands p
constant_operands_at start None p = Err (at_offset NotConstant start)

-- like `constant_operands_at`, where a number after the opcode selects the instruction
abbrev pub numbered_operands_at : (start : ℕ) → (ℕ → Option Operands) → Place → Outcome ConstOperator
numbered_operands_at start table p = do
  number ← unsigned_at VarU32 p
  constant_operands_at start (table number.0) number.1

-- the operator of an instruction that begins at this offset, read after its opcode
unfoldable pub after_opcode : (start opcode : ℕ) → Place → Outcome ConstOperator
after_opcode start opcode p =
    if opcode == 0xFB then numbered_operands_at start aggregate_operands_of p
    else if opcode == 0xFD then numbered_operands_at start vector_operands_of p
    else constant_operands_at start (operands_of opcode) p

-- | a constant expression: instructions and the end, as the window of them all; it is the end, or an instruction and
--   then an expression [`end_of_expression`, `expression_at`, `IsEndOrInstruction`] <Instructions, Expressions>
-- The place after at most `most` instructions, the last of which is `end`, the byte 0x0B. At the end of the window, the
-- next opcode is missing. The bound makes the recursion end; that it is no limit is a law.
abbrev pub instructions_at : (most : ℕ) → Place → Outcome (Unit {0})
instructions_at zero p = Err (at_offset UnexpectedEof p.offset)
instructions_at (suc most) p = do
  opcode ← byte_at p
  if opcode.0 == 0x0B then Ok (tt, opcode.1) else (after_opcode p.offset opcode.0 opcode.1 >>= λ instruction.
      instructions_at most instruction.1)

-- the place after an expression: an instruction has at least one byte, so there are no more instructions than bytes
unfoldable pub end_of_expression : Place → Outcome (Unit {0})
end_of_expression p = instructions_at (length p.rest) p

-- a constant expression, as the window of its instructions including `end`
unfoldable pub expression_at : Place → Outcome Window
expression_at p = do
  end ← end_of_expression p
  Ok (window_between p end.1, end.1)

-- What was skipped belongs to the expression: it ends where it ended before, or is malformed.
abbrev pub LeavesExpression : Result (Unit {0}) Error → (old new : Window) → Type 0
LeavesExpression (Ok nothing) old new = end_of_expression (place new) ≡ end_of_expression (place old)
LeavesExpression (Err e) old new = end_of_expression (place old) ≡ Err (fault_at e)

-- An expression is `end`, or an instruction followed by an expression.
abbrev pub IsEndOrInstruction : Place → Type 0
IsEndOrInstruction p = end_of_expression p ≡ (byte_at p >>= λ opcode.
    if opcode.0 == 0x0B then Ok (tt, opcode.1) else (after_opcode p.offset opcode.0 opcode.1 >>= λ instruction.
    end_of_expression instruction.1))
