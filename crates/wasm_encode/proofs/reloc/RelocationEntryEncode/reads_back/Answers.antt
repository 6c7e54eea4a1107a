use Rattle.wasm_encode.proofs.RelocBack.{relocation_encodes}
use Rattle.wasm_encode.proofs.reloc.RelocationEntryEncode.reads_back.Goals as goal

pub returns : goal.returns
returns c = λ features allowed. relocation_encodes c.args.self.now features c.requires
