use Rattle.std.proofs.Common.{refl}
use Rattle.wasm_custom.specs.declared.linking.ComdatSymbolKind.TheVariants as Kinds
use Rattle.wasm_custom.specs.declared.reloc.RelocAddendKind.TheVariants as Addends
use Rattle.wasm_custom.proofs.laws.flags_are_hashed_as_their_bits.Goals as goal

pub returns-clause-comdat_kind : goal.returns-clause-comdat_kind
returns-clause-comdat_kind c Kinds.Data = refl
returns-clause-comdat_kind c Kinds.Func = refl
returns-clause-comdat_kind c Kinds.Global = refl
returns-clause-comdat_kind c Kinds.Event = refl
returns-clause-comdat_kind c Kinds.Table = refl
returns-clause-comdat_kind c Kinds.Section = refl

pub returns-clause-addend_kind : goal.returns-clause-addend_kind
returns-clause-addend_kind c Addends.None = refl
returns-clause-addend_kind c Addends.Addend32 = refl
returns-clause-addend_kind c Addends.Addend64 = refl
