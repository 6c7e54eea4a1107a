use Rattle.wasm_encode.proofs.CopiedTypes.{types_copied}
use Rattle.wasm_encode.proofs.copied.types_are_copied.Goals as goal

pub returns : goal.returns
returns c = types_copied
