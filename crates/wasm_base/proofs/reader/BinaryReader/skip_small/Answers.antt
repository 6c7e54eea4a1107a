use Rattle.std.proofs.Common.{rules, ◌∙◌, arith}
use Rattle.wasm_base.proofs.PassedNumbers.{pass_small}
use Rattle.wasm_base.proofs.reader.BinaryReader.skip_small.Goals as goal

pub loop-left-preserved : goal.loop-left-preserved
loop-left-preserved c = record {
  so_far = pass_small c.loop-left.left 32 c.remaining_buffer-rest.result.now _ _ c.loop-left-test.true c.remaining_buffer-rest.ensures
      c.if-rest-lt-LANES.false (search rules) c.move_past-in-loop-left.ensures.place ∙ c.loop-left.invariant.so_far;
  fewer = omega (arith, c.loop-left.invariant.fewer);
  keeps = search rules;
}
