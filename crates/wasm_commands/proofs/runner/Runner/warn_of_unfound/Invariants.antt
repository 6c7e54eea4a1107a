use Rattle.std.proofs.Common.{take}
use Rattle.wasm_commands.specs.Parsing.{texts}
use Rattle.wasm_commands.specs.Runs.{InTurn}
use Rattle.wasm_commands.specs.Shows.{MayWarn}
use Rattle.wasm_commands.proofs.runner.Runner.warn_of_unfound.Given as goal

abbrev pub invariant-loop-word : goal.invariant-loop-word
invariant-loop-word g l =
    InTurn (MayWarn l.plan.verb l.name) (texts (take l.word-index l.plan.words.now)) l.status l.initial.self l.self
