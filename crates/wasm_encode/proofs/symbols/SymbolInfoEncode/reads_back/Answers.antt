use Rattle.wasm_encode.proofs.SymbolsBack.{symbol_encodes}
use Rattle.wasm_encode.proofs.symbols.SymbolInfoEncode.reads_back.Goals as goal

pub returns : goal.returns
returns c = λ features allowed. symbol_encodes c.args.self.now features c.requires
