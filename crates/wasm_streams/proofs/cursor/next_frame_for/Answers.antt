use Rattle.wasm_streams.proofs.Common.{ℕ, ◌+◌, List, refl, sym, ap, subst₂, GivesAnswer}
use Rattle.std.proofs.lemmas.List.{length-take-le}
use Rattle.wasm_frames.specs.Answer.{Consumes, GivesFrame, reports}
use Rattle.wasm_frames.specs.declared.next.NextFrame.TheVariants.{Parsed}
use Rattle.wasm_streams.proofs.Consuming.{consumed_so}
use Rattle.wasm_streams.proofs.cursor.next_frame_for.Goals as goal

pub returns-in-Parsed : goal.returns-in-Parsed
returns-in-Parsed g c =
    let rest = c.after-rest.result.now in
    let read = c.in-Parsed in
    let fits : Consumes rest (reports read.frame read.consumed) = read.ensures.consumes in
    let answers : GivesFrame c.args.cursor.now.parser c.args.cursor.now.is_finished rest
    (Parsed read.frame read.consumed) c.next_for.new.self = read.ensures.answers in
    record {
      parses = subst₂ (λ (xs : List ℕ) (n : ℕ). GivesAnswer c.args.cursor.now.parser c.args.cursor.now.is_finished xs
          (reports read.frame n) c.next_for.new.self)
          c.after-rest.ensures (sym (length-take-le read.consumed rest fits.0)) answers;
      shows = rw c.after-rest.ensures (consumed_so c.args.cursor.now.mark c.in-Parsed.consumed c.args.bytes.now);
      mark = ap (λ (n : ℕ). c.args.cursor.now.mark + n) (sym (length-take-le read.consumed rest fits.0));
      finished = refl;
      wants = refl;
    }
