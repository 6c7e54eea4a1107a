use Rattle.wasm_commands.proofs.Finding.{Sought}
use Rattle.wasm_commands.proofs.extract.find.Given as goal

abbrev pub invariant-loop-payload : goal.invariant-loop-payload
invariant-loop-payload l = record {
  can : goal.iterator-loop-payload.can_next l.payload-iterator;
  finite : goal.iterator-loop-payload.is_finite l.payload-iterator;
  sought : Sought l.fn.wanted.name.now l.fn.wanted.before l.fn.bytes l.payload-iterator l.before;
}
