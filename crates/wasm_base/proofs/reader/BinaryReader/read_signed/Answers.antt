use Rattle.std.proofs.Common.{◌-◌, arith}
use Rattle.std.proofs.lemmas.Int.{ints}
use Rattle.wasm_base.specs.Window.{place}
use Rattle.wasm_base.proofs.Signed.{SignedRead, signed_read}
use Rattle.wasm_base.proofs.reader.BinaryReader.read_signed.Goals as goal

known : (c : goal.After-original_position) → SignedRead c.args.kind c.in_ok-sum.sum
    (c.original_position.result - c.original_position-start.result)
known c =
    signed_read c.args.kind (place c.args.self.now) (place c.read_septets.new.self) c.in_ok-sum.sum c.original_position-start.result
    c.original_position.result c.requires c.in_ok-sum.ensures.gives c.original_position-start.ensures.offset
    c.original_position.ensures.offset

pub signed_of-requires-clause-used : goal.signed_of-requires-clause-used
signed_of-requires-clause-used c = (known c).few

pub signed_of-requires-clause-fits : goal.signed_of-requires-clause-fits
signed_of-requires-clause-fits c = (known c).widest

pub returns-clause-fits : goal.returns-clause-fits
returns-clause-fits c =
    let k : SignedRead c.args.kind c.in_ok-sum.sum (c.original_position.result - c.original_position-start.result) =
    signed_read c.args.kind (place c.args.self.now) (place c.read_septets.new.self) c.in_ok-sum.sum c.original_position-start.result
    c.original_position.result c.requires c.in_ok-sum.ensures.gives c.original_position-start.ensures.offset
    c.original_position.ensures.offset in
    let e = c.signed_of.ensures in
    (omega (arith, ints, e, k.fits.0, k.widest.0, k.widest.1), omega (arith, ints, e, k.fits.1, k.widest.0, k.widest.1))
