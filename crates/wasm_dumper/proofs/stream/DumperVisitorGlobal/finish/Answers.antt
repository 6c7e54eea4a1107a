use Rattle.wasm_dumper.proofs.DumpTurns.{finishes}
use Rattle.wasm_dumper.proofs.stream.DumperVisitorGlobal.finish.Goals as goal

pub returns : goal.returns
returns g c = record {
  finishes = finishes (λ d. d.shown.only.now) (λ d. d.shown.has_bytes) (λ d. d.counts) g.O.Tree.writing
      _ _ _ c.flush.result c.flush.ensures.adds c.flush.ensures.out c.flush.ensures.ok c.flush.ensures.err;
}
