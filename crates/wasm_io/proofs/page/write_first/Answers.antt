use Rattle.std.proofs.Common.{refl}
use Rattle.wasm_io.proofs.Cut.{first_bytes}
use Rattle.wasm_io.proofs.page.write_first.Goals as goal

pub returns-in-Err-clause-cut : goal.returns-in-Err-clause-cut
returns-in-Err-clause-cut g c =
    let w = c.in-Err.ensures in
    first_bytes _ _ _ _ w.err.0 refl w.err.1
