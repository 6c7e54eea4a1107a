use Rattle.std.proofs.Common.{◌≡◌, ◌+◌, ◌/◌, ◌%◌, set, arith, length-set, append_assoc}
use Rattle.std.proofs.lemmas.Grind.{take-set_at}
use Rattle.wasm_io.proofs.Decimal.{pair_at}
use Rattle.wasm_io.specs.Digits.{last_digits}
use Rattle.wasm_io.proofs.digits.write_two.Goals as goal

pub returns-clause-written : goal.returns-clause-written
unfolding last_digits
returns-clause-written c =
    let digits = pair_at c.args.number c.requires.0 in
    let at = c.args.at in
    let bytes = c.args.bytes.now in
    let tens = 48 + c.args.number / 10 in
    let same : c.args.number / 10 % 10 ≡ c.args.number / 10 = omega arith in
    rw (
      digits.0,
      digits.1,
      take-set_at (set bytes at tens) (at + 1) (at + 2) (48 + c.args.number % 10) (omega arith) (omega (arith, length-set bytes at tens)),
      take-set_at bytes at (at + 1) tens (omega arith) (omega arith),
      append_assoc,
      same,
    )
