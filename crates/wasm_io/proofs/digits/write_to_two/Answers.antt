use Rattle.std.proofs.Common.{◌+◌, arith}
use Rattle.std.proofs.lemmas.Fmt.{decimal_digit}
use Rattle.std.proofs.lemmas.Grind.{take-set_at}
use Rattle.wasm_io.proofs.Decimal.{decimal_two}
use Rattle.wasm_io.proofs.digits.write_to_two.Goals as goal

pub returns-then-number-lt10-clause-written : goal.returns-then-number-lt10-clause-written
returns-then-number-lt10-clause-written c = rw (
  decimal_digit c.args.number c.if-number-lt10.true,
  take-set_at c.args.bytes.now c.args.at (c.args.at + 1) (48 + c.args.number) (omega arith) (omega arith),
)

pub returns-clause-written : goal.returns-clause-written
returns-clause-written c = rw (c.write_two.ensures.written, decimal_two c.args.number c.if-number-lt10.false c.requires.0)
