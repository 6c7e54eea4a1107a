use Rattle.wasm_output.proofs.Common.{◌≡◌, ◌-◌, false, ◌≤◌, take, list_any, is_escaped}
use Rattle.wasm_output.proofs.escapes.plain_count.Given as goal

abbrev pub invariant-plain : goal.invariant-plain
invariant-plain l = record {
  within : l.count ≤ l.most;
  plain : list_any is_escaped (take l.count l.bytes) ≡ false;
}

abbrev pub decreases-plain : goal.decreases-plain
decreases-plain l = l.most - l.count
