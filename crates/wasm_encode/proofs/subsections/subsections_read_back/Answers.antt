use Rattle.wasm_encode.proofs.SubsectionsBack.{subsections_back}
use Rattle.wasm_encode.proofs.subsections.subsections_read_back.Goals as goal

pub returns : goal.returns
returns g c = subsections_back g.T.Subsection.meaning
