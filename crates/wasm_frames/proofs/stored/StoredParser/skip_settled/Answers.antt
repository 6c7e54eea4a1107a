use Rattle.wasm_frames.proofs.Common.{sym, ap, ◌∙◌, arith, numbers_of}
use Rattle.wasm_frames.specs.SkipNext.{state_after_skip}
use Rattle.wasm_frames.proofs.SkipNext.{is_skipped, part_skips}
use Rattle.wasm_frames.proofs.stored.StoredParser.skip_settled.Goals as goal

pub returns-in-Some-clause-state : goal.returns-in-Some-clause-state
returns-in-Some-clause-state c =
    let fits = c.fits.ensures.0 c.if-not-fits.false in
    c.advance.ensures.state ∙ (sym c.in-Some.ensures.passes.first_fields ∙ ap (state_after_skip (numbers_of c.args.self.now))
    (sym (is_skipped (numbers_of c.args.self.now) c.args.bytes.now c.reader-reader.result c.in-Some.frame c.in-Some.end
    c.reader-reader.ensures (sym c.if-expects_header.ensures) c.in-Some.ensures.gives (omega (arith, fits)))))

pub returns-in-Some-clause-skips : goal.returns-in-Some-clause-skips
returns-in-Some-clause-skips c = rw c.skipped_part.ensures
    (part_skips (numbers_of c.args.self.now) c.args.bytes.now c.reader-reader.result c.in-Some.frame c.in-Some.end
    c.reader-reader.ensures (sym c.if-expects_header.ensures) c.in-Some.ensures.gives _ c.in-Some.ensures.passes
    (omega (arith, c.in-Some.ensures.passes.fits)) c.advance.ensures.state)
