-- The bytes of constant operators. Core specification, Binary format, Instructions.
use Rattle.std.specs.Prelude.{◌≡◌, ℕ, ◌<◌, ◌^◌, List, [], ◌∷◌, ◌++◌, length, Option, Some, None, Ok}
use Rattle.std.specs.Int.{to_le_bytes, w32, w64}
use Rattle.wasm_base.specs.Float.{bits_of_32, bits_of_64}
use Rattle.wasm_base.specs.Outcome.{Outcome, ◌>>=◌}
use Rattle.wasm_base.specs.Signed.{FitsBits}
use Rattle.wasm_base.specs.Window.{Place}
use Rattle.wasm_encode.specs.Numbers.{signed_bytes, unsigned_bytes}
use Rattle.wasm_encode.specs.Types.{HeapFits, heap_bytes, maybe_byte}
use Rattle.wasm_items.specs.Instructions.{instruction_at}
use Rattle.wasm_items.specs.Windows.{bytes_of_vector}
use Rattle.wasm_items.specs.declared.init.ConstOperator.{ConstOperator}
use Rattle.wasm_items.specs.declared.init.ConstOperator.TheVariants as Operators

-- the operator of the instruction at a place
abbrev pub operator_read_at : Place → Outcome ConstOperator
operator_read_at p = do
  instruction ← instruction_at p
  Ok (instruction.0.operator, instruction.1)

-- the first byte of an operator
abbrev pub opcode : ConstOperator → ℕ
opcode Operators.End = 0x0B
opcode (Operators.GlobalGet global) = 0x23
opcode (Operators.I32Const n) = 0x41
opcode (Operators.I64Const n) = 0x42
opcode (Operators.F32Const float) = 0x43
opcode (Operators.F64Const float) = 0x44
opcode (Operators.V128Const vector) = 0xFD
opcode Operators.I32Add = 0x6A
opcode Operators.I32Sub = 0x6B
opcode Operators.I32Mul = 0x6C
opcode Operators.I64Add = 0x7C
opcode Operators.I64Sub = 0x7D
opcode Operators.I64Mul = 0x7E
opcode (Operators.RefNull ty) = 0xD0
opcode (Operators.RefFunc function) = 0xD2
opcode other = 0xFB

-- the number after the opcodes 0xFB and 0xFD, which is below 128
abbrev pub opcode_number : ConstOperator → Option ℕ
opcode_number (Operators.StructNew index) = Some 0
opcode_number (Operators.StructNewDefault index) = Some 1
opcode_number (Operators.ArrayNew index) = Some 6
opcode_number (Operators.ArrayNewDefault index) = Some 7
opcode_number (Operators.ArrayNewFixed index size) = Some 8
opcode_number (Operators.V128Const vector) = Some 12
opcode_number Operators.AnyConvertExtern = Some 26
opcode_number Operators.ExternConvertAny = Some 27
opcode_number Operators.RefI31 = Some 28
opcode_number other = None

-- the operands
abbrev pub operand_bytes : ConstOperator → List ℕ
operand_bytes (Operators.GlobalGet global) = unsigned_bytes global
operand_bytes (Operators.I32Const n) = signed_bytes n
operand_bytes (Operators.I64Const n) = signed_bytes n
operand_bytes (Operators.F32Const float) = to_le_bytes w32 (bits_of_32 float)
operand_bytes (Operators.F64Const float) = to_le_bytes w64 (bits_of_64 float)
operand_bytes (Operators.V128Const vector) = bytes_of_vector vector
operand_bytes (Operators.RefNull ty) = heap_bytes ty
operand_bytes (Operators.RefFunc function) = unsigned_bytes function
operand_bytes (Operators.StructNew index) = unsigned_bytes index
operand_bytes (Operators.StructNewDefault index) = unsigned_bytes index
operand_bytes (Operators.ArrayNew index) = unsigned_bytes index
operand_bytes (Operators.ArrayNewDefault index) = unsigned_bytes index
operand_bytes (Operators.ArrayNewFixed index size) = unsigned_bytes index ++ unsigned_bytes size
operand_bytes other = []

-- what comes after the opcode
abbrev pub after_opcode_bytes : ConstOperator → List ℕ
after_opcode_bytes operator = maybe_byte (opcode_number operator) ++ operand_bytes operator

-- | the bytes of a constant operator: its opcode, after 0xFB and 0xFD another number, and its operands; whether it
--   fits; the operator of the instruction at a place [`opcode`, `opcode_number`, `operand_bytes`, `after_opcode_bytes`;
--   `OperatorFits`; `operator_read_at`] <Instructions>
-- an operator
unfoldable pub operator_bytes : ConstOperator → List ℕ
operator_bytes operator = opcode operator ∷ after_opcode_bytes operator

-- Indices are u32, numbers and floats have the bits of their types, and vectors have 16 bytes.
abbrev pub OperatorFits : ConstOperator → Type 0
OperatorFits (Operators.GlobalGet global) = global < 2 ^ 32
OperatorFits (Operators.I32Const n) = FitsBits 32 n
OperatorFits (Operators.I64Const n) = FitsBits 64 n
OperatorFits (Operators.F32Const float) = bits_of_32 float < 2 ^ 32
OperatorFits (Operators.F64Const float) = bits_of_64 float < 2 ^ 64
OperatorFits (Operators.V128Const vector) = length (bytes_of_vector vector) ≡ 16
OperatorFits (Operators.RefNull ty) = HeapFits ty
OperatorFits (Operators.RefFunc function) = function < 2 ^ 32
OperatorFits (Operators.StructNew index) = index < 2 ^ 32
OperatorFits (Operators.StructNewDefault index) = index < 2 ^ 32
OperatorFits (Operators.ArrayNew index) = index < 2 ^ 32
OperatorFits (Operators.ArrayNewDefault index) = index < 2 ^ 32
OperatorFits (Operators.ArrayNewFixed index size) = (index < 2 ^ 32) × (size < 2 ^ 32)
OperatorFits other = Unit {0}
