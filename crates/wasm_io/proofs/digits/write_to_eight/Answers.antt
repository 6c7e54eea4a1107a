use Rattle.std.proofs.Common.{append_assoc}
use Rattle.wasm_io.proofs.Decimal.{decimal_by_four}
use Rattle.wasm_io.proofs.digits.write_to_eight.Goals as goal

pub returns-clause-written : goal.returns-clause-written
returns-clause-written c = rw (
  c.write_four.ensures.written,
  c.write_to_four-middle.ensures.written,
  decimal_by_four c.args.number c.if-number-lt10000.false c.ranges.number.fits,
  append_assoc,
)
