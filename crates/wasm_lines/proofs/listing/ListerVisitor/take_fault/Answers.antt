use Rattle.wasm_lines.proofs.ListTurns.{takes}
use Rattle.wasm_lines.proofs.listing.ListerVisitor.take_fault.Goals as goal

pub returns-clause-takes : goal.returns-clause-takes
returns-clause-takes g c =
    takes (λ l. l.page) g.W.Sink.taken g.W.Sink.has_failed _ _ _ _ _ c.put_fault.result c.put_fault.ensures.takes
    c.put_fault.ensures.failed
