use Rattle.std.proofs.Common.{◌≡◌, ◌++◌, ℕ, List, length}
use Rattle.std.specs.Io.KnownBytes.{Appends}
use Rattle.wasm_console.specs.Messages.{joined}
use Rattle.wasm_console.proofs.common.write_parts.Given as goal

-- some texts were written, and these are left
abbrev pub invariant-parts : goal.invariant-parts
invariant-parts g l =
    let sink = g.E.Sink in
    record {
      written : List ℕ;
      wrote : Appends (sink.taken l.initial.output) (sink.taken l.output) written;
      parts : joined l.parts ≡ written ++ joined l.rest;
      failed : sink.has_failed l.output ≡ sink.has_failed l.initial.output;
    }

abbrev pub decreases-parts : goal.decreases-parts
decreases-parts g l = length l.rest
