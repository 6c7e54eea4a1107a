use Rattle.std.proofs.Common.{append_assoc}
use Rattle.wasm_io.proofs.Decimal.{decimal_by_eight}
use Rattle.wasm_io.proofs.digits.write_long.Goals as goal

pub returns-clause-written : goal.returns-clause-written
returns-clause-written c = rw (
  c.write_eight.ensures.written,
  c.write_to_twelve-middle.ensures.written,
  decimal_by_eight c.args.number c.requires.0 c.ranges.number.fits,
  append_assoc,
)
