-- Instructions of constant expressions.
use Rattle.std.specs.Prelude.{ℕ, ◌-◌, ℤ, pos, Ok, Err}
use Rattle.wasm_base.specs.Float.{bits_of_32, bits_of_64}
use Rattle.wasm_base.specs.Outcome.{Outcome}
use Rattle.wasm_base.specs.Window.{Place}
use Rattle.wasm_items.specs.declared.init.ConstOperator.{ConstOperator}
use Rattle.wasm_items.specs.declared.init.ConstOperator.TheVariants.{End, GlobalGet, I32Const, I64Const, F32Const}
use Rattle.wasm_items.specs.declared.init.ConstOperator.TheVariants.{F64Const}
use Rattle.wasm_items.specs.declared.init.ConstOperator.TheVariants.{V128Const, I32Add, I32Sub, I32Mul, I64Add}
use Rattle.wasm_items.specs.declared.init.ConstOperator.TheVariants.{I64Sub, I64Mul}
use Rattle.wasm_items.specs.declared.init.ConstOperator.TheVariants.{RefNull, RefFunc, StructNew, StructNewDefault}
use Rattle.wasm_items.specs.declared.init.ConstOperator.TheVariants.{ArrayNew}
use Rattle.wasm_items.specs.declared.init.ConstOperator.TheVariants.{ArrayNewDefault, ArrayNewFixed}
use Rattle.wasm_items.specs.declared.init.ConstOperator.TheVariants.{AnyConvertExtern}
use Rattle.wasm_items.specs.declared.init.ConstOperator.TheVariants.{ExternConvertAny, RefI31}
use Rattle.wasm_items.specs.declared.instructions.ConstInstruction.{ConstInstruction}
use Rattle.wasm_items.specs.declared.types.HeapType.{HeapType}
use Rattle.wasm_c_items.specs.Faults.{no_fault, plain_fault}
use Rattle.wasm_c_items.specs.Spans.{no_span, span_before}
use Rattle.wasm_c_items.specs.Values.{heap_code, heap_index}
use Rattle.wasm_c_items.specs.declared.instructions.PlainInstruction.{PlainInstruction}
use Rattle.wasm_c_items.specs.declared.spans.PlainSpan.{PlainSpan}

-- an instruction of this many bytes without operands; an opcode of two parts is 256 times the first and the second
abbrev pub opcode : (consumed : ℕ) → (opcode : ℕ) → PlainInstruction
opcode consumed code = record {
  fault = no_fault;
  consumed = consumed;
  opcode = code;
  index = 0;
  heap = 0;
  count = 0;
  integer = pos 0;
  bits = 0;
  bytes = no_span;
}

-- one whose operand is an index
abbrev pub indexed : (consumed opcode index : ℕ) → PlainInstruction
indexed consumed code index = record (opcode consumed code) { index = index }

-- a constant whose operand is an integer
abbrev pub with_integer : (consumed opcode : ℕ) → ℤ → PlainInstruction
with_integer consumed code integer = record (opcode consumed code) { integer = integer }

-- one whose operand is a float with these bits
abbrev pub with_bits : (consumed opcode bits : ℕ) → PlainInstruction
with_bits consumed code bits = record (opcode consumed code) { bits = bits }

-- one whose operand is a vector, which comes last
abbrev pub with_vector : (consumed : ℕ) → PlainSpan → PlainInstruction
with_vector consumed bytes = record (opcode consumed 0xFD0C) { bytes = bytes }

-- a null reference
abbrev pub with_heap : (consumed : ℕ) → HeapType → PlainInstruction
with_heap consumed heap = record (indexed consumed 0xD0 (heap_index heap)) { heap = heap_code heap }

-- an array of this many elements
abbrev pub array_of_count : (consumed index count : ℕ) → PlainInstruction
array_of_count consumed index count = record (indexed consumed 0xFB08 index) { count = count }

-- an instruction of this many bytes, of which these are the last 16. Core specification, Binary format, Instructions.
abbrev pub instruction_from : (consumed : ℕ) → (last : PlainSpan) → ConstOperator → PlainInstruction
instruction_from consumed last End = opcode consumed 0x0B
instruction_from consumed last I32Add = opcode consumed 0x6A
instruction_from consumed last I32Sub = opcode consumed 0x6B
instruction_from consumed last I32Mul = opcode consumed 0x6C
instruction_from consumed last I64Add = opcode consumed 0x7C
instruction_from consumed last I64Sub = opcode consumed 0x7D
instruction_from consumed last I64Mul = opcode consumed 0x7E
instruction_from consumed last AnyConvertExtern = opcode consumed 0xFB1A
instruction_from consumed last ExternConvertAny = opcode consumed 0xFB1B
instruction_from consumed last RefI31 = opcode consumed 0xFB1C
instruction_from consumed last (GlobalGet index) = indexed consumed 0x23 index
instruction_from consumed last (RefFunc index) = indexed consumed 0xD2 index
instruction_from consumed last (StructNew index) = indexed consumed 0xFB00 index
instruction_from consumed last (StructNewDefault index) = indexed consumed 0xFB01 index
instruction_from consumed last (ArrayNew index) = indexed consumed 0xFB06 index
instruction_from consumed last (ArrayNewDefault index) = indexed consumed 0xFB07 index
instruction_from consumed last (I32Const value) = with_integer consumed 0x41 value
instruction_from consumed last (I64Const value) = with_integer consumed 0x42 value
instruction_from consumed last (F32Const value) = with_bits consumed 0x43 (bits_of_32 value)
instruction_from consumed last (F64Const value) = with_bits consumed 0x44 (bits_of_64 value)
instruction_from consumed last (V128Const value) = with_vector consumed last
instruction_from consumed last (RefNull heap) = with_heap consumed heap
instruction_from consumed last (ArrayNewFixed index size) = array_of_count consumed index size

-- an instruction
abbrev pub plain_instruction : (from : ℕ) → Place → Outcome ConstInstruction → PlainInstruction
plain_instruction from p (Ok x) =
    instruction_from (x.1.offset - p.offset) (span_before from x.1.offset 16) x.0.operator
plain_instruction from p (Err f) = record (opcode 0 0) { fault = plain_fault f }
