use Rattle.wasm_encode.proofs.TablesBack.{table_encodes}
use Rattle.wasm_encode.proofs.tables.TableEncode.reads_back.Goals as goal

pub returns : goal.returns
returns c = λ features allowed. table_encodes c.args.self.now features c.requires allowed
