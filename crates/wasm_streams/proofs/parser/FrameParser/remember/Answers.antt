use Rattle.std.proofs.Common.{◌≤◌, length, refl, arith}
use Rattle.wasm_frames.specs.Stored.{parser_of}
use Rattle.wasm_streams.proofs.Awaited.{remembers}
use Rattle.wasm_streams.proofs.Common.{length-take}
use Rattle.wasm_streams.proofs.parser.FrameParser.remember.Goals as goal

pub invariant_of-self : goal.invariant_of-self
invariant_of-self c =
    let asked = rw (← c.self.view_is) at c.requires in
    let cut = c.in-Some.ensures.cases in
    let long : 8 ≤ length c.in-Some.first.now = rw cut.same (omega (arith, cut.enough, length-take 8 c.args.bytes.now)) in
    remembers (parser_of c.self.inside.stored) c.args.bytes.now c.args.hint _ refl cut.same long asked c.if-hint-gt1.true
    c.in-Some-checked_add.ensures.1 (c.if-fits.ensures.0 refl)
