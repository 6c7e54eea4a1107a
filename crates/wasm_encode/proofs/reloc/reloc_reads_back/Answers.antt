use Rattle.wasm_encode.proofs.RelocBack.{reloc_back}
use Rattle.wasm_encode.proofs.reloc.reloc_reads_back.Goals as goal

pub returns : goal.returns
returns c = λ features offset. reloc_back c.args.section c.args.entries.now features offset c.ranges.section.fits
    (c.section_reads_back.ensures features _ (λ k d h. tt))
