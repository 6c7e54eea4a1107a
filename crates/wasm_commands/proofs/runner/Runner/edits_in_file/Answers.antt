use Rattle.std.proofs.Common.{inl}
use Rattle.wasm_commands.proofs.Steps.{makes}
use Rattle.wasm_commands.proofs.runner.Runner.edits_in_file.Goals as goal

pub returns : goal.returns
returns g c =
    inl (tt, c.search.new.self, c.in_ok-found.ensures, makes _ c.edits_by.result _ _ _ c.allocated.ensures c.edits_by.ensures)
