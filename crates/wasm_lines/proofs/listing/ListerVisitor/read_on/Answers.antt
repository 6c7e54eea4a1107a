use Rattle.wasm_lines.proofs.ListTurns.{requests}
use Rattle.wasm_lines.proofs.listing.ListerVisitor.read_on.Goals as goal

pub returns-clause-meets : goal.returns-clause-meets
returns-clause-meets g c =
    requests (λ l. l.page) g.W.Sink.taken g.W.Sink.has_failed _ _ _ _ _ _ _ c.read_on.result c.read_on.ensures.reads
    c.read_on.ensures.source c.read_on.ensures.sink
