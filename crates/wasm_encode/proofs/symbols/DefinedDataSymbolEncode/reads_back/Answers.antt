use Rattle.wasm_encode.proofs.SymbolsBack.{place_encodes}
use Rattle.wasm_encode.proofs.symbols.DefinedDataSymbolEncode.reads_back.Goals as goal

pub returns : goal.returns
returns c = λ features allowed. place_encodes c.args.self.now features c.requires
