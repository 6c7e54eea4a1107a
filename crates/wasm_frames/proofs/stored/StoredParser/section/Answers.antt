use Rattle.wasm_frames.proofs.Common.{numbers_of, known_context, ap, sym, option_to_list, place, refl}
use Rattle.wasm_frames.proofs.NextParts.{fault_given, next_section}
use Rattle.wasm_frames.proofs.stored.StoredParser.section.Goals as goal

pub returns-in-Err-clause-answers : goal.returns-in-Err-clause-answers
returns-in-Err-clause-answers g c =
    record {
      result = _;
      gives = fault_given (numbers_of c.args.self.now) c.args.eof c.args.bytes.now _ c.in-Err.error _
          (next_section (numbers_of c.args.self.now) c.args.bytes.now (place c.args.reader.now) _ _ c.requires.closed c.requires.at
          c.in-Err.ensures.0) c.requires.fits c.requires.begun c.refused.ensures;
      is = c.of.ensures;
    }

pub given-requires : goal.given-requires
given-requires g c κs =
    let reads =
    next_section (numbers_of c.args.self.now) c.args.bytes.now (place c.args.reader.now) _ _ c.requires.closed c.requires.at
    (c.in-Ok.ensures.next _ _ (rw c.in-Custom.is (c.whole_custom-read.ensures (known_context (numbers_of c.args.self.now)))))
    in
    ((refl, tt), (c.requires.fits, (c.requires.room, (c.requires.begun, reads))))

pub given-requires-in-Unknown : goal.given-requires-in-Unknown
given-requires-in-Unknown g c κs =
    let reads =
    next_section (numbers_of c.args.self.now) c.args.bytes.now (place c.args.reader.now) _ _ c.requires.closed c.requires.at
    (c.in-Ok.ensures.next _ _ (rw c.in-Unknown.is (c.whole_unknown-read.ensures (known_context (numbers_of c.args.self.now)))))
    in
    ((refl, tt), (c.requires.fits, (c.requires.room, (c.requires.begun, reads))))

pub given-requires-in-Code : goal.given-requires-in-Code
given-requires-in-Code g c κs =
    let reads =
    next_section (numbers_of c.args.self.now) c.args.bytes.now (place c.args.reader.now) _ _ c.requires.closed c.requires.at
    (c.in-Ok.ensures.next _ _ (rw c.in-Code.is (c.code-read.ensures (known_context (numbers_of c.args.self.now))
    (ap option_to_list (sym c.functions.ensures)))))
    in
    ((refl, tt), (c.requires.fits, (c.requires.room, (c.requires.begun, reads))))

pub given-requires-in_default : goal.given-requires-in_default
given-requires-in_default g c κs =
    let reads =
    next_section (numbers_of c.args.self.now) c.args.bytes.now (place c.args.reader.now) _ _ c.requires.closed c.requires.at
    (c.in-Ok.ensures.next _ _ c.whole-read.ensures)
    in
    ((refl, tt), (c.requires.fits, (c.requires.room, (c.requires.begun, reads))))
