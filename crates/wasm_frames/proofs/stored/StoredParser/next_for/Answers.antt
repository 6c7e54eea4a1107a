use Rattle.wasm_frames.proofs.Common.{sym, subst₂, ParserState, GivesFrame}
use Rattle.wasm_frames.proofs.Settled.{settled}
use Rattle.wasm_frames.proofs.stored.StoredParser.next_for.Goals as goal

pub returns : goal.returns
returns g c = subst₂ (λ (p q : ParserState). GivesFrame p c.args.eof c.args.bytes.now c.next_settled.result q) c.settle.ensures.is
    (sym (settled c.next_settled.new.self c.next_settled.ensures.room)) c.next_settled.ensures.answers
