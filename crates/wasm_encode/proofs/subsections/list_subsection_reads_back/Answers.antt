use Rattle.wasm_encode.proofs.SubsectionsBack.{list_back}
use Rattle.wasm_encode.proofs.subsections.list_subsection_reads_back.Goals as goal

pub returns : goal.returns
returns g c = λ features offset id small allowed. list_back g.T.Encode.meaning features offset id g.T.Encode.encoded
    (g.T.Encode.placed features) c.args.items.now small c.requires.short (c.section_reads_back.ensures features _ allowed)
