use Rattle.std.proofs.Common.{◌≡◌, ◌<◌, ◌+◌, ◌*◌, ◌^◌, drop}
use Rattle.wasm_base.specs.Number.{septets}
use Rattle.wasm_base.proofs.number.sum_of_septets.Given as goal

-- the septets so far, and the weight of the next one
abbrev pub invariant-loop-b : goal.invariant-loop-b
invariant-loop-b l = record {
  so_far : l.sum + l.weight * septets (drop l.b-index l.bytes) ≡ septets l.bytes;
  weight : l.weight ≡ 128 ^ l.b-index;
  below : l.sum < l.weight;
}
