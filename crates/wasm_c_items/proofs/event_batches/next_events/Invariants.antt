use Rattle.std.proofs.Common.{◌-◌, ◌≤◌, length}
use Rattle.wasm_frames.specs.Stored.{parser_of}
use Rattle.wasm_c_items.proofs.EventBatches.{Stored}
use Rattle.wasm_c_items.proofs.event_batches.next_events.Given as goal

abbrev pub invariant-loop-count : goal.invariant-loop-count
invariant-loop-count l = record {
  within : l.count ≤ length l.out;
  stored : Stored l.is_all (parser_of l.initial.parser) l.initial.bytes l.initial.out l.count (length l.out - l.count) l.at
      (parser_of l.parser) l.rest l.out;
}

abbrev pub decreases-loop-count : goal.decreases-loop-count
decreases-loop-count l = length l.out - l.count
