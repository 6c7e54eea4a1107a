use Rattle.wasm_streams.proofs.PassedParts.{puts_after, cuts_after}
use Rattle.wasm_streams.proofs.passing.put_or_write.Goals as goal

pub returns-in-Ok-clause-puts : goal.returns-in-Ok-clause-puts
returns-in-Ok-clause-puts g c =
    let w = c.in_ok-write_out.ensures.writes in
    puts_after _ _ _ _ _ _ w.0 w.1 c.in-Ok.ensures.ok

pub returns-in-Err-clause-cut : goal.returns-in-Err-clause-cut
returns-in-Err-clause-cut g c =
    let w = c.in_ok-write_out.ensures.writes in
    let e = c.in-Err.ensures.err in
    cuts_after _ _ _ _ _ e.0 w.0 e.1
