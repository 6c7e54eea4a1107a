use Rattle.wasm_lines.proofs.ListTurns.{gives_out}
use Rattle.wasm_lines.proofs.listing.ListerVisitor.out_of_memory.Goals as goal

pub returns : goal.returns
returns g c = record { gives = gives_out (λ l. l.page) g.W.Sink.taken g.W.Sink.has_failed _ _ }
