use Rattle.std.proofs.Common.{◌≡◌, rules, true}
use Rattle.wasm_commands.proofs.Editing.{all_but_flushed}
use Rattle.wasm_commands.proofs.runner.forwards_all.Goals as goal

pub returns-in-Err-clause-writes : goal.returns-in-Err-clause-writes
returns-in-Err-clause-writes g c =
    let is : c.writes_all.result ≡ true = search rules in
    let all = rw is at c.writes_all.ensures in
    (all_but_flushed _ _ _ _ all.0 c.flush.ensures.bytes, c.in-Err.ensures.failed)
