use Rattle.std.proofs.Common.{arith}
use Rattle.std.proofs.lemmas.List.{get_or_default}
use Rattle.wasm_commands.proofs.Coloring.{gathers_next}
use Rattle.wasm_commands.proofs.dump.gathered.gather.Goals as goal

pub loop-byte-preserved : goal.loop-byte-preserved
loop-byte-preserved c = record {
  gathers = gathers_next c.args.first c.loop-byte.byte-index _ c.args.later.now _ _ c.loop-byte.invariant.gathers c.put_byte.ensures
      (omega arith) (get_or_default c.args.later.now c.loop-byte.byte-index _ _ (omega arith));
  counts = omega (arith, c.loop-byte.invariant.counts);
}
