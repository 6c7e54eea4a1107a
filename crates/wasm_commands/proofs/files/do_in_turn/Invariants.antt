use Rattle.std.proofs.Common.{take}
use Rattle.wasm_commands.specs.Commands.{DoesTask}
use Rattle.wasm_commands.specs.Parsing.{texts}
use Rattle.wasm_commands.specs.Runs.{InTurn}
use Rattle.wasm_commands.proofs.files.do_in_turn.Given as goal

abbrev pub invariant-loop-name : goal.invariant-loop-name
invariant-loop-name g l =
    InTurn (DoesTask g.S.System g.S.Input.Source l.task) (texts (take l.name-index l.names)) l.status
    l.initial.runner l.runner
