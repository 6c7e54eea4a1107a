use Rattle.wasm_io.proofs.digits.+write_digits.Given as goal

abbrev pub decreases-write_digits : goal.decreases-write_digits
decreases-write_digits l = l.most
