use Rattle.std.proofs.Common.{arith}
use Rattle.wasm_encode.proofs.SubsectionsBack.{item_back}
use Rattle.wasm_encode.proofs.subsections.subsection_reads_back.Goals as goal

pub returns : goal.returns
returns g c = λ features offset id small allowed.
    let len = c.encoded_len-size.ensures.len in
    let short = c.encoded_len-size.ensures.short in
    item_back g.T.Encode.meaning features offset id g.T.Encode.encoded g.T.Encode.is_allowed g.T.Encode.placed c.args.item.now small
    (omega (arith, len, short)) c.reads_back.ensures allowed
