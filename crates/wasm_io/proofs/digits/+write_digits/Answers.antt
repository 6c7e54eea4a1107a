use Rattle.std.proofs.Common.{◌+◌, append_assoc, arith}
use Rattle.std.proofs.lemmas.Grind.{take-set_at}
use Rattle.wasm_io.proofs.Hexadecimal.{hexadecimal_digit, hexadecimal_step}
use Rattle.wasm_io.proofs.digits.+write_digits.Goals as goal

pub returns-then-number-lt16-clause-written : goal.returns-then-number-lt16-clause-written
returns-then-number-lt16-clause-written t c = rw (
  hexadecimal_digit c.args.number c.if-number-lt16.true,
  take-set_at c.args.bytes.now c.args.at (c.args.at + 1) c.digit_of.result (omega arith) (omega arith),
  c.digit_of.ensures,
)

pub returns-clause-written : goal.returns-clause-written
returns-clause-written t c =
    let end = c.write_digits-end.result in
    rw (
      hexadecimal_step c.args.number c.if-number-lt16.false c.ranges.number.fits,
      take-set_at c.write_digits-end.new.bytes end (end + 1) c.digit_of-2.result (omega arith) (omega arith),
      c.write_digits-end.ensures.written,
      c.digit_of-2.ensures,
      append_assoc,
    )
