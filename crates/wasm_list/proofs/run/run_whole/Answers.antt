use Rattle.std.proofs.Common.{refl}
use Rattle.wasm_list.proofs.Finishing.{program}
use Rattle.wasm_list.proofs.run.run_whole.Goals as goal

pub returns : goal.returns
returns g c =
    rw c.from.ensures
    (program (record { bytes = refl; failed = refl }) (record { bytes = refl; failed = refl })
    c.run_command-status.ensures c.finish.ensures)
