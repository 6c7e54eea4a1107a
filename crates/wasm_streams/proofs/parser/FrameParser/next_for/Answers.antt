use Rattle.wasm_frames.proofs.ForCallers.{consumes}
use Rattle.wasm_streams.proofs.Awaited.{recalls_still}
use Rattle.wasm_streams.proofs.parser.FrameParser.next_for.Goals as goal

pub invariant_of-self : goal.invariant_of-self
invariant_of-self g c = recalls_still _ _ _ _ _ c.self.inside.cut c.next_for.ensures c.self.invariant

pub returns-clause-consumes : goal.returns-clause-consumes
returns-clause-consumes g c = consumes _ _ _ _ _ c.next_for.ensures
