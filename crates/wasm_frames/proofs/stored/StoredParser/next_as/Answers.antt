use Rattle.std.proofs.Common.{rules}
use Rattle.wasm_frames.proofs.Common.{sym, arith, place, numbers_of, refl}
use Rattle.wasm_frames.proofs.NextParts.{next_in_code, not_true, place_at}
use Rattle.wasm_frames.proofs.Results.{asks_at_section}
use Rattle.wasm_frames.proofs.stored.StoredParser.next_as.Goals as goal

pub returns-in-Some-clause-answers : goal.returns-in-Some-clause-answers
returns-in-Some-clause-answers g c =
    let fits = c.fits.ensures.0 c.if-not-fits.false in
    record {
      result = _;
      gives = rw c.if-not-eof.true (asks_at_section _ _ _ (omega (arith, fits)) (sym c.if-is_at_section.ensures) (sym c.in-Some.ensures));
      is = c.of-in-Some.ensures;
    }

pub given-requires-then-is_code_open : goal.given-requires-then-is_code_open
given-requires-then-is_code_open g c κs =
    let reads =
    next_in_code (numbers_of c.args.self.now) c.args.bytes.now (place c.reader-reader.result) _ _
    (sym c.if-expects_header.ensures) (not_true _ c.if-is_code_open.ensures)
    (place_at (numbers_of c.args.self.now) c.reader-reader.result c.args.bytes.now c.reader-reader.ensures) c.body-read.ensures
    in
    ((refl, tt), (c.fits.ensures.0 c.if-not-fits.false, (c.requires.room, (search rules, reads))))
