use Rattle.std.proofs.Common.{append_assoc}
use Rattle.wasm_io.proofs.Decimal.{decimal_by_two}
use Rattle.wasm_io.proofs.digits.write_to_four.Goals as goal

pub returns-clause-written : goal.returns-clause-written
returns-clause-written c = rw (
  c.write_two.ensures.written,
  c.write_to_two-middle.ensures.written,
  decimal_by_two c.args.number c.if-number-lt100.false c.ranges.number.fits,
  append_assoc,
)
