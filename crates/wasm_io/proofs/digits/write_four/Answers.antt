use Rattle.std.proofs.Common.{append_assoc}
use Rattle.wasm_io.proofs.Decimal.{four_by_two}
use Rattle.wasm_io.proofs.digits.write_four.Goals as goal

pub returns-clause-written : goal.returns-clause-written
returns-clause-written c = rw (
  c.write_two.ensures.written,
  c.write_two-middle.ensures.written,
  four_by_two c.args.number,
  append_assoc,
)
