use Rattle.wasm_dumper.proofs.DumpTurns.{gives_out}
use Rattle.wasm_dumper.proofs.stream.DumperVisitorGlobal.out_of_memory.Goals as goal

pub returns : goal.returns
returns g c = record {
  gives = gives_out (λ d. d.shown.only.now) (λ d. d.shown.has_bytes) (λ d. d.counts) g.O.Tree.writing
      _ _ _ _ c.stop.ensures.adds c.stop.ensures.stops;
}
