use Rattle.std.proofs.Common.{ℕ, List, Option, Bor, subst, sym}
use Rattle.wasm_commands.specs.Parsing.{text_if_any}
use Rattle.wasm_commands.specs.Rewrites.{EditsAs}
use Rattle.wasm_commands.proofs.runner.Runner.edit_to.Goals as goal

pub returns-in-None : goal.returns-in-None
returns-in-None g c =
    subst (λ (target : Option (Bor (List ℕ))). EditsAs g.S.System g.S.Input.Source g.S.Output.Sink c.args.edits.now
    c.args.original.now (text_if_any target) c.edit_output.result c.args.self.now c.edit_output.new.self) (sym c.in-None.is)
    c.edit_output.ensures
