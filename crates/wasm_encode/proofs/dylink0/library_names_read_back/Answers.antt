use Rattle.wasm_encode.proofs.Dylink0Back.{names_back}
use Rattle.wasm_encode.proofs.dylink0.library_names_read_back.Goals as goal

pub returns : goal.returns
returns c = λ features offset. names_back c.args.names.now features offset c.requires
