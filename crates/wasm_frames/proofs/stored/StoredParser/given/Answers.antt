use Rattle.wasm_frames.proofs.Common.{place, numbers_of}
use Rattle.wasm_frames.proofs.NextParts.{fault_given, frame_given, given_section}
use Rattle.wasm_frames.proofs.stored.StoredParser.given.Goals as goal

pub advance-requires-clause-section : goal.advance-requires-clause-section
advance-requires-clause-section g c = given_section (numbers_of c.args.self.now) c.args.bytes.now (place c.args.reader.now) c.in-Ok.frame
    (rw c.in-Ok.is at c.requires.reads)

pub returns-in-Ok-clause-answers : goal.returns-in-Ok-clause-answers
returns-in-Ok-clause-answers g c =
    record {
      result = _;
      gives = frame_given (numbers_of c.args.self.now) _ c.args.eof c.args.bytes.now (place c.args.reader.now)
          c.in-Ok.frame _ (rw c.in-Ok.is at c.requires.reads) c.requires.fits c.original_position-end.ensures.offset
          c.advance.ensures.state;
      is = c.of.ensures;
    }

pub returns-in-Err-clause-answers : goal.returns-in-Err-clause-answers
returns-in-Err-clause-answers g c =
    record {
      result = _;
      gives = fault_given (numbers_of c.args.self.now) c.args.eof c.args.bytes.now (place c.args.reader.now)
          c.in-Err.error _ (rw c.in-Err.is at c.requires.reads) c.requires.fits c.requires.begun c.refused.ensures;
      is = c.of-in-Err.ensures;
    }
