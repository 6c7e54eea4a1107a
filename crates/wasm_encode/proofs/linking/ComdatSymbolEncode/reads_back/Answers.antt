use Rattle.wasm_encode.proofs.LinkingBack.{comdat_symbol_encodes}
use Rattle.wasm_encode.proofs.linking.ComdatSymbolEncode.reads_back.Goals as goal

pub returns : goal.returns
returns c = λ features allowed. comdat_symbol_encodes c.args.self.now features c.requires
