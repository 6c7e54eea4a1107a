use Rattle.std.proofs.Common.{refl}
use Rattle.wasm_custom.specs.declared.reloc.RelocationType.TheVariants.{FunctionIndexLeb, TableIndexSleb, TableIndexI32, MemoryAddrLeb}
use Rattle.wasm_custom.specs.declared.reloc.RelocationType.TheVariants.{MemoryAddrSleb, MemoryAddrI32, TypeIndexLeb, GlobalIndexLeb}
use Rattle.wasm_custom.specs.declared.reloc.RelocationType.TheVariants.{FunctionOffsetI32, SectionOffsetI32, EventIndexLeb}
use Rattle.wasm_custom.specs.declared.reloc.RelocationType.TheVariants.{MemoryAddrRelSleb, TableIndexRelSleb, GlobalIndexI32}
use Rattle.wasm_custom.specs.declared.reloc.RelocationType.TheVariants.{MemoryAddrLeb64, MemoryAddrSleb64, MemoryAddrI64}
use Rattle.wasm_custom.specs.declared.reloc.RelocationType.TheVariants.{MemoryAddrRelSleb64, TableIndexSleb64, TableIndexI64}
use Rattle.wasm_custom.specs.declared.reloc.RelocationType.TheVariants.{TableNumberLeb, MemoryAddrTlsSleb, FunctionOffsetI64}
use Rattle.wasm_custom.specs.declared.reloc.RelocationType.TheVariants.{MemoryAddrLocrelI32, TableIndexRelSleb64, MemoryAddrTlsSleb64}
use Rattle.wasm_custom.specs.declared.reloc.RelocationType.TheVariants.{FunctionIndexI32}
use Rattle.wasm_custom.proofs.laws.relocations_are_hashed_as_their_fields.Goals as goal

pub returns-clause-relocation_type : goal.returns-clause-relocation_type
returns-clause-relocation_type c FunctionIndexLeb = refl
returns-clause-relocation_type c TableIndexSleb = refl
returns-clause-relocation_type c TableIndexI32 = refl
returns-clause-relocation_type c MemoryAddrLeb = refl
returns-clause-relocation_type c MemoryAddrSleb = refl
returns-clause-relocation_type c MemoryAddrI32 = refl
returns-clause-relocation_type c TypeIndexLeb = refl
returns-clause-relocation_type c GlobalIndexLeb = refl
returns-clause-relocation_type c FunctionOffsetI32 = refl
returns-clause-relocation_type c SectionOffsetI32 = refl
returns-clause-relocation_type c EventIndexLeb = refl
returns-clause-relocation_type c MemoryAddrRelSleb = refl
returns-clause-relocation_type c TableIndexRelSleb = refl
returns-clause-relocation_type c GlobalIndexI32 = refl
returns-clause-relocation_type c MemoryAddrLeb64 = refl
returns-clause-relocation_type c MemoryAddrSleb64 = refl
returns-clause-relocation_type c MemoryAddrI64 = refl
returns-clause-relocation_type c MemoryAddrRelSleb64 = refl
returns-clause-relocation_type c TableIndexSleb64 = refl
returns-clause-relocation_type c TableIndexI64 = refl
returns-clause-relocation_type c TableNumberLeb = refl
returns-clause-relocation_type c MemoryAddrTlsSleb = refl
returns-clause-relocation_type c FunctionOffsetI64 = refl
returns-clause-relocation_type c MemoryAddrLocrelI32 = refl
returns-clause-relocation_type c TableIndexRelSleb64 = refl
returns-clause-relocation_type c MemoryAddrTlsSleb64 = refl
returns-clause-relocation_type c FunctionIndexI32 = refl
