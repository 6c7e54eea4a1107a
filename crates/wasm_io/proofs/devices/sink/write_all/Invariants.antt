use Rattle.std.proofs.Common.{◌≡◌, ◌-◌, ◌≤◌, length, take}
use Rattle.std.specs.Io.KnownBytes.{Appends}
use Rattle.wasm_io.proofs.devices.sink.write_all.Given as goal

abbrev pub invariant-loop-written : goal.invariant-loop-written
invariant-loop-written g l =
    let sink = g.W.Sink in
    record {
      within : l.written ≤ length l.bytes;
      appended : Appends (sink.taken l.initial.output) (sink.taken l.output) (take l.written l.bytes);
      failed : sink.has_failed l.output ≡ sink.has_failed l.initial.output;
    }

abbrev pub decreases-loop-written : goal.decreases-loop-written
decreases-loop-written g l = length l.bytes - l.written
