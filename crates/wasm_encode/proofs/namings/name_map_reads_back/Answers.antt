use Rattle.wasm_encode.proofs.NamingsBack.{map_back}
use Rattle.wasm_encode.proofs.namings.name_map_reads_back.Goals as goal

pub returns : goal.returns
returns c = λ features offset. map_back c.args.namings.now features offset c.list_subsection_reads_back.ensures
