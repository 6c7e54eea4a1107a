use Rattle.wasm_lines.proofs.ListTurns.{line_taken, takes}
use Rattle.wasm_lines.proofs.listing.ListerVisitor.take_part.Goals as goal

pub returns-clause-takes : goal.returns-clause-takes
returns-clause-takes g c =
    takes (λ l. l.page) g.W.Sink.taken g.W.Sink.has_failed _ _ _ _ _ c.put_line.result
    (line_taken _ _ _ _ c.args.frame c.args._bytes.now c.put_line.result c.put_line.ensures.puts) c.put_line.ensures.failed
