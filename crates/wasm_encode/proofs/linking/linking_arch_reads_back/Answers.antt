use Rattle.wasm_encode.proofs.LinkingBack.{arch_back}
use Rattle.wasm_encode.proofs.linking.linking_arch_reads_back.Goals as goal

pub returns : goal.returns
returns c = λ features offset. arch_back c.args.name.now features offset c.requires
