use Rattle.wasm_output.proofs.Common.{◌≡◌, ◌-◌, false, ◌≤◌, length, take, list_any, is_escaped}
use Rattle.wasm_output.proofs.escapes.plain_fours.Given as goal

abbrev pub invariant-fours : goal.invariant-fours
invariant-fours l = record {
  within : l.count ≤ length l.bytes;
  plain : list_any is_escaped (take l.count l.bytes) ≡ false;
}

abbrev pub decreases-fours : goal.decreases-fours
decreases-fours l = length l.bytes - l.count
