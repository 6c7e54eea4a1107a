use Rattle.std.proofs.Common.{refl}
use Rattle.wasm_encode.proofs.Growing.{none_yet}
use Rattle.wasm_encode.proofs.modules.Module.new.Goals as goal

pub returns : goal.returns
returns g c = none_yet _ c.in_ok-bytes.ensures.items refl refl refl refl refl
