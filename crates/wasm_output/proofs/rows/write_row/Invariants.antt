use Rattle.wasm_output.proofs.Common.{◌≡◌, ◌+◌, ◌++◌, take, ◌*◌, flat_map}
use Rattle.wasm_output.specs.Tree.{after_blank}
use Rattle.wasm_output.proofs.rows.write_row.Given as goal

abbrev pub invariant-loop-byte : goal.invariant-loop-byte
invariant-loop-byte l = record {
  end : l.end ≡ l.at + 3 * l.byte-index;
  written : take l.end l.bytes ≡ take l.at l.fn.bytes ++ flat_map after_blank (take l.byte-index l.shown);
}
