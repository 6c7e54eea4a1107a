use Rattle.std.proofs.Common.{append_assoc}
use Rattle.wasm_io.proofs.Decimal.{eight_by_four}
use Rattle.wasm_io.proofs.digits.write_eight.Goals as goal

pub returns-clause-written : goal.returns-clause-written
returns-clause-written c = rw (
  c.write_four.ensures.written,
  c.write_four-middle.ensures.written,
  eight_by_four c.args.number,
  append_assoc,
)
