use Rattle.std.proofs.Common.{◌+◌, ◌-◌, length, arith}
use Rattle.std.proofs.lemmas.Slice.{drop-put_mid}
use Rattle.wasm_encode.proofs.bytes.write_bytes.Goals as goal

pub returns-clause-rest : goal.returns-clause-rest
returns-clause-rest c =
    drop-put_mid c.args.at (c.args.at + length c.args.more.now - c.args.at) c.args.bytes.now c.copy_from_slice.new.self
    (c.args.at + length c.args.more.now) (omega arith) (omega (arith, c.requires)) (omega (arith, c.copy_from_slice.ensures.len))
