use Rattle.std.proofs.Common.{sym, ap, ◌∙◌, length, rules, arith}
use Rattle.wasm_base.specs.Window.{place}
use Rattle.wasm_items.proofs.OneByOne.{next_given}
use Rattle.wasm_items.proofs.instructions.ConstInstructionsIterator.next.Goals as goal

pub returns-clause-steps : goal.returns-clause-steps
returns-clause-steps c =
    let before = rw c.if-self.false at c.self.view_is in (
      sym before ∙ next_given (place c.self.inside.reader) (place c.read_instruction-read.new.reader) c.read_instruction-read.result _
          c.read_instruction-read.ensures.gives c.ends_with-self-inside.ensures,
      c.read_instruction-read.ensures.memory,
    )

pub returns-clause-goes : goal.returns-clause-goes
returns-clause-goes c =
    let before = rw c.if-self.false at c.self.view_is in
    let e = sym before ∙ next_given (place c.self.inside.reader) (place c.read_instruction-read.new.reader) c.read_instruction-read.result _
    c.read_instruction-read.ensures.gives c.ends_with-self-inside.ensures in
    record {
      on = λ finite. (search rules, search rules, omega (arith, ap length e));
      keeps = search rules;
      rests = λ finite. search rules;
    }
