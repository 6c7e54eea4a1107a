use Rattle.wasm_encode.proofs.LinkingBack.{linking_back}
use Rattle.wasm_encode.proofs.linking.linking_reads_back.Goals as goal

pub returns : goal.returns
returns g c = linking_back g.T.Encode.meaning g.T.Encode.is_allowed g.T.Encode.encoded g.T.Encode.placed c.args.items.now
    c.list_subsection_reads_back.ensures
