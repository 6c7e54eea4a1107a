use Rattle.wasm_encode.proofs.elements.element_sections_read_back.Goals as goal

pub returns : goal.returns
returns c = λ features offset. c.section_reads_back.ensures features offset (λ k d h. tt)
