use Rattle.std.proofs.Common.{◌∙◌, refl}
use Rattle.wasm_dumper.specs.Walks.{imports_seen}
use Rattle.wasm_dumper.proofs.Walked.{import_fault, import_owed, no_imports}
use Rattle.wasm_dumper.proofs.numbered.CountedItems.next_item.Goals as goal

pub returns-in-None-clause-owed : goal.returns-in-None-clause-owed
returns-in-None-clause-owed c deep level all o = o ∙ no_imports level _ _ c.next.new.self c.in-None.ensures.steps

pub returns-in-Some-Ok-clause-owed : goal.returns-in-Some-Ok-clause-owed
returns-in-Some-Ok-clause-owed c deep level all o = (
  imports_seen level c.add.new.self c.next.new.self,
  refl,
  import_owed deep level c.args.self.now.counts c.add.new.self c.args.self.now.imports c.next.new.self
      (c.in-Some-Ok.offset, c.in-Some-Ok.import) c.import_space-space.result c.of-index.result all
      (rw c.in-Some-Ok.field-0-is at c.in-Some-Ok.ensures.steps)
      c.import_space-space.ensures c.of-index.ensures c.add.ensures o,
)

pub returns-in-Some-Err-clause-owed : goal.returns-in-Some-Err-clause-owed
returns-in-Some-Err-clause-owed c deep level all o = λ m. (
  imports_seen level c.args.self.now.counts c.next.new.self,
  refl,
  o ∙ import_fault level c.args.self.now.counts c.args.self.now.imports c.next.new.self c.in-Some-Err.e
      (rw c.in-Some-Err.field-0-is at c.in-Some-Err.ensures.steps),
)
