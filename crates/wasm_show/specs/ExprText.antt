-- The text of instructions of constant expressions, in the words of the text format. Core specification, Text format,
-- Instructions.
use Rattle.std.specs.Prelude.{ℕ, List, [], ◌++◌, codes, decimal}
use Rattle.std.specs.Fmt.{signed_decimal}
use Rattle.std.specs.List.{flat_map}
use Rattle.wasm_base.specs.Float.{bits_of_32, bits_of_64}
use Rattle.wasm_items.specs.Windows.{bytes_of_vector}
use Rattle.wasm_items.specs.declared.init.ConstOperator.{ConstOperator}
use Rattle.wasm_items.specs.declared.init.ConstOperator.TheVariants as operators
use Rattle.wasm_show.specs.TypeText.{after_blank, heap_text}
use Rattle.wasm_output.specs.Fields.{hexadecimal}

abbrev pub operator_word : ConstOperator → List ℕ
operator_word operators.End = codes "end"
operator_word (operators.GlobalGet global_index) = codes "global.get"
operator_word (operators.I32Const value) = codes "i32.const"
operator_word (operators.I64Const value) = codes "i64.const"
operator_word (operators.F32Const value) = codes "f32.const"
operator_word (operators.F64Const value) = codes "f64.const"
operator_word (operators.V128Const value) = codes "v128.const"
operator_word operators.I32Add = codes "i32.add"
operator_word operators.I32Sub = codes "i32.sub"
operator_word operators.I32Mul = codes "i32.mul"
operator_word operators.I64Add = codes "i64.add"
operator_word operators.I64Sub = codes "i64.sub"
operator_word operators.I64Mul = codes "i64.mul"
operator_word (operators.RefNull hty) = codes "ref.null"
operator_word (operators.RefFunc function_index) = codes "ref.func"
operator_word (operators.StructNew struct_type_index) = codes "struct.new"
operator_word (operators.StructNewDefault struct_type_index) = codes "struct.new_default"
operator_word (operators.ArrayNew array_type_index) = codes "array.new"
operator_word (operators.ArrayNewDefault array_type_index) = codes "array.new_default"
operator_word (operators.ArrayNewFixed array_type_index array_size) = codes "array.new_fixed"
operator_word operators.AnyConvertExtern = codes "any.convert_extern"
operator_word operators.ExternConvertAny = codes "extern.convert_any"
operator_word operators.RefI31 = codes "ref.i31"

-- an operand after a blank: an index, a number, the bits of a float, the bytes of a vector, a heap type
abbrev pub operands_text : ConstOperator → List ℕ
operands_text (operators.I32Const value) = after_blank (signed_decimal value)
operands_text (operators.I64Const value) = after_blank (signed_decimal value)
operands_text (operators.F32Const value) = codes " bits=" ++ decimal (bits_of_32 value)
operands_text (operators.F64Const value) = codes " bits=" ++ decimal (bits_of_64 value)
operands_text (operators.V128Const value) = after_blank (flat_map hexadecimal (bytes_of_vector value))
operands_text (operators.RefNull hty) = after_blank (heap_text hty)
operands_text (operators.GlobalGet global_index) = after_blank (decimal global_index)
operands_text (operators.RefFunc function_index) = after_blank (decimal function_index)
operands_text (operators.StructNew struct_type_index) = after_blank (decimal struct_type_index)
operands_text (operators.StructNewDefault struct_type_index) = after_blank (decimal struct_type_index)
operands_text (operators.ArrayNew array_type_index) = after_blank (decimal array_type_index)
operands_text (operators.ArrayNewDefault array_type_index) = after_blank (decimal array_type_index)
operands_text (operators.ArrayNewFixed array_type_index array_size) =
    after_blank (decimal array_type_index) ++ after_blank (decimal array_size)
operands_text other = []

-- | the text of an instruction of a constant expression, with its numbers [`operator_word`, `operands_text`] <Text
--   format, Instructions>
abbrev pub operator_text : ConstOperator → List ℕ
operator_text operator = operator_word operator ++ operands_text operator
