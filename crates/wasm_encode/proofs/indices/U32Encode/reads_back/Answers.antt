use Rattle.std.proofs.Common.{refl}
use Rattle.wasm_base.specs.declared.fault.NumberKind.TheVariants.{VarU32}
use Rattle.wasm_encode.proofs.NumbersBack.{unsigned_encodes}
use Rattle.wasm_encode.proofs.indices.U32Encode.reads_back.Goals as goal

pub returns : goal.returns
returns c = λ features allowed. unsigned_encodes VarU32 features c.args.self.now refl c.requires
