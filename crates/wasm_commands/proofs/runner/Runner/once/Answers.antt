use Rattle.std.proofs.Common.{◌∙◌, refl, sym}
use Rattle.wasm_commands.proofs.Adding.{asked_again, asked_once, no_data}
use Rattle.wasm_commands.specs.Parsing.{texts}
use Rattle.wasm_commands.proofs.runner.Runner.once.Goals as goal

pub returns-then-reads_input_twice : goal.returns-then-reads_input_twice
returns-then-reads_input_twice g c =
    asked_again (texts c.args.words.now) c.args.file.now _ _ _ c.in-Ok.additions (rw c.in-Ok.is at c.requires)
    (sym (rw c.deref.ensures.value at c.reads_input_twice.ensures) ∙ c.if-reads_input_twice.true)
    c.complain.ensures.status c.complain.ensures.tells

pub returns-else-reads_input_twice : goal.returns-else-reads_input_twice
returns-else-reads_input_twice g c =
    asked_once (texts c.args.words.now) c.args.file.now 0 c.args.self.now c.args.self.now c.in-Ok.additions
    (rw c.in-Ok.is at c.requires) c.args.file refl
    (sym (rw c.deref.ensures.value at c.reads_input_twice.ensures) ∙ c.if-reads_input_twice.false)

pub returns-in-Err : goal.returns-in-Err
returns-in-Err g c =
    no_data (texts c.args.words.now) c.args.file.now _ _ _ c.in-Err.word (rw c.in-Err.is at c.requires)
    c.complain-in-Err.ensures.status c.complain-in-Err.ensures.tells
