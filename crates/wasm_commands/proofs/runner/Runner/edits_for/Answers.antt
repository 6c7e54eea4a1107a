use Rattle.std.proofs.Common.{◌≡◌, rules, true}
use Rattle.wasm_commands.proofs.runner.Runner.edits_for.Goals as goal

pub returns-in-Some : goal.returns-in-Some
returns-in-Some g c =
    let is : c.args.replaces ≡ true = search rules in
    rw (is, c.in-Some.is) (rw c.deref.ensures.value at c.edits_in.ensures)
