use Rattle.std.proofs.Common.{arith}
use Rattle.wasm_base.proofs.Numbers.{weight_next, weight_below, one_more, small_product}
use Rattle.wasm_base.proofs.number.sum_of_septets.Goals as goal

pub overflow_mul-sum : goal.overflow_mul-sum
overflow_mul-sum c =
    omega (
      arith,
      small_product c.from.result c.loop-b.weight (omega arith),
      weight_below c.loop-b.weight c.loop-b.b-index _ c.loop-b.invariant.weight c.loop-b-test.true c.requires,
    )

pub overflow_add-sum : goal.overflow_add-sum
overflow_add-sum c =
    omega (
      arith,
      small_product c.from.result c.loop-b.weight (omega arith),
      weight_below c.loop-b.weight c.loop-b.b-index _ c.loop-b.invariant.weight c.loop-b-test.true c.requires,
    )

pub loop-b-preserved : goal.loop-b-preserved
loop-b-preserved c = record {
  so_far = rw c.from.ensures (one_more c.args.bytes.now c.loop-b.sum c.loop-b.weight c.loop-b.b-index _ c.loop-b-test.true
      c.loop-b.invariant.so_far);
  weight = weight_next c.loop-b.weight c.loop-b.b-index c.loop-b.invariant.weight;
  below = omega (arith, small_product c.from.result c.loop-b.weight (omega arith));
}
