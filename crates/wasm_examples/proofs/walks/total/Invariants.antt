use Rattle.wasm_examples.proofs.Common.{◌≡◌, ◌+◌, ◌-◌, ◌*◌, ◌^◌, ◌≤◌, place, with_each}
use Rattle.wasm_base.specs.Number.{unsigned_at}
use Rattle.wasm_base.specs.declared.fault.NumberKind.TheVariants.{VarU32}
use Rattle.wasm_examples.specs.Totals.{total_at}
use Rattle.wasm_examples.proofs.Items.{left_of}
use Rattle.wasm_examples.proofs.walks.total.Given as goal

abbrev pub invariant-loop-number : goal.invariant-loop-number
invariant-loop-number l = record {
  can : goal.iterator-loop-number.can_next l.number-iterator;
  finite : goal.iterator-loop-number.is_finite l.number-iterator;
  room : l.total + l.number-iterator.left * 2 ^ 32 ≤ 2 ^ 64 - 2 ^ 32;
  so_far : total_at l.fn.numbers.count (place l.fn.numbers.reader)
      ≡ with_each (λ sum n. sum + n) l.total (left_of (unsigned_at VarU32) l.number-iterator);
}
