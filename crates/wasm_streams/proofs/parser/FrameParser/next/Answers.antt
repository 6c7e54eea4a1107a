use Rattle.wasm_streams.proofs.Awaited.{recalls_still}
use Rattle.wasm_streams.proofs.parser.FrameParser.next.Goals as goal

pub invariant_of-self : goal.invariant_of-self
invariant_of-self c = recalls_still _ _ _ _ _ c.self.inside.cut c.next.ensures.answers c.self.invariant
