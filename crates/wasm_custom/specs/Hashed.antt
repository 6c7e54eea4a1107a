-- How items for linkers are hashed: structs field by field, enums as the number of the variant, from 0. This project.
use Rattle.std.specs.Prelude.{◌++◌, pos}
use Rattle.std.specs.Hash.{HashWrites, isize, u8, u32, i64}
use Rattle.wasm_custom.specs.Reloc.{number_of}
use Rattle.wasm_custom.specs.declared.linking.ComdatSymbolKind.{ComdatSymbolKind}
use Rattle.wasm_custom.specs.declared.linking.ComdatSymbolKind.TheVariants as Kinds
use Rattle.wasm_custom.specs.declared.reloc.RelocAddendKind.{RelocAddendKind}
use Rattle.wasm_custom.specs.declared.reloc.RelocAddendKind.TheVariants as Addends
use Rattle.wasm_custom.specs.declared.reloc.RelocationEntry.{RelocationEntry}

abbrev pub hash_of_symbol_kind : ComdatSymbolKind → HashWrites
hash_of_symbol_kind Kinds.Data = isize (pos 0)
hash_of_symbol_kind Kinds.Func = isize (pos 1)
hash_of_symbol_kind Kinds.Global = isize (pos 2)
hash_of_symbol_kind Kinds.Event = isize (pos 3)
hash_of_symbol_kind Kinds.Table = isize (pos 4)
hash_of_symbol_kind Kinds.Section = isize (pos 5)

abbrev pub hash_of_addend : RelocAddendKind → HashWrites
hash_of_addend Addends.None = isize (pos 0)
hash_of_addend Addends.Addend32 = isize (pos 1)
hash_of_addend Addends.Addend64 = isize (pos 2)

abbrev pub hash_of_relocation : RelocationEntry → HashWrites
hash_of_relocation entry = u8 (number_of entry.ty) ++ (u32 entry.offset ++ (u32 entry.index ++ i64 entry.addend))
